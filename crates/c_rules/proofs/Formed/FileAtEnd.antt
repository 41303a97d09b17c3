-- A file of which no external is left is right.
use Rattle.std.proofs.Common.{◌≡◌, ℕ, not, refl, List, [], slice_get, Option, Some, None, sym, ap, ◌∙◌}
use Rattle.std.proofs.lemmas.List.Elements.{All-weaker}
use Rattle.std.proofs.lemmas.Option.{none-some, same_Some}
use Rattle.c_tree.specs.TypedTree.{Break}
use Rattle.c_tree.specs.declared.program.VarRef.{VarRef}
use Rattle.c_tree.specs.declared.program.VarRef.TheVariants as refs
use Rattle.c_rules.specs.declared.meaning.Meaning.{Meaning}
use Rattle.c_rules.specs.declared.meaning.Meaning.TheVariants as meanings
use Rattle.c_rules.specs.declared.meaning.FunctionType.{FunctionType}
use Rattle.c_rules.specs.Typing.{bodies_before}
use Rattle.c_rules.specs.Units.{StaticTree, TypedFunction, File}
use Rattle.c_tree.specs.WellFormed.{Shape, Signature}
use Rattle.c_rules.proofs.Formed.Context.{Fits, Holds, IsMeaning, signature_of}
use Rattle.c_rules.proofs.Formed.OpenedNames.{Suits}
use Rattle.c_rules.proofs.Formed.FileContext.{local_shape, object_in, static_names, signature, is_array, names_in, IsTypedFunction, IsStatic, IsTypedFile}
use Rattle.c_rules.proofs.Formed.FileSoFar.{at_place, Stands, IsStaticIn, IsFunctionIn, IsFileSoFar}
use Rattle.c_rules.proofs.Formed.BodyNumbers.{place_of, function_named}

same_meaning : (a b : FunctionType) → Some (meanings.Function a) ≡ Some (meanings.Function b) → a ≡ b
same_meaning a b same = cc same

-- what the function of a name takes and gives is what its type says
signature_known : (file : File) (g : TypedFunction) (known : IsFunctionIn file.scope g) → signature (Some g) ≡ Some (signature_of known.type)
signature_known file g known = λ i. Some (record { parameters = known.parameters i; result = known.result i })

module _ (file : File) (known : IsFileSoFar [] file) where
  module _ (name : List ℕ) (type : FunctionType) (there : file.scope.meaning name ≡ Some (meanings.Function type)) where
    function_there : (g : TypedFunction) → slice_get file.functions (bodies_before file.scope name) ≡ Some g → signature (Some g) ≡ Some (signature_of type)
    function_there g is =
        let right = at_place (IsFunctionIn file.scope) file.functions (bodies_before file.scope name) g known.functions is in
        let named : g.name ≡ name = function_named name file.functions g (ap (λ ns. slice_get file.functions (place_of name ns)) (sym known.bodies) ∙ is) in
        let same : right.type ≡ type = same_meaning right.type type (sym right.named ∙ ap file.scope.meaning named ∙ there) in
        signature_known file g right ∙ ap (λ t. Some (signature_of t)) same

    signature_fits : (o : Option TypedFunction) (s : Signature) → slice_get file.functions (bodies_before file.scope name) ≡ o → signature o ≡ Some s → s ≡ signature_of type
    signature_fits None s is given = absurd (none-some s given)
    signature_fits (Some g) s is given = same_Some s (signature_of type) (sym given ∙ function_there g is)

  module _ (f : TypedFunction) where
    meaning_fits : (name : List ℕ) (m : Meaning) → file.scope.meaning name ≡ Some m → Stands file.statics m → IsMeaning (names_in file f) (bodies_before file.scope name) m
    meaning_fits name (meanings.Object (refs.Scalar n) type) there stands = absurd stands
    meaning_fits name (meanings.Object (refs.Local n) type) there stands = absurd stands
    meaning_fits name (meanings.Object (refs.Static n) type) there stands = (stands.0, stands.1, tt {0})
    meaning_fits name (meanings.Function type) there stands =
        ((λ s given. signature_fits name type there (slice_get file.functions (bodies_before file.scope name)) s refl given), stands.0, stands.1)

    names_fit : Fits (names_in file f) file.scope
    names_fit name m there = meaning_fits name m there (known.names name m there)

    locals_held : Holds f.locals (object_in file f) (names_in file f)
    locals_held = record {
      object = λ n l there. ap local_shape there;
      filled = λ n l there array. ap is_array there ∙ ap not array;
    }

    -- what is known everywhere: statics alone
    statics_lie : (v : VarRef) (shape : Shape) → static_names file v ≡ Some shape → object_in file f v ≡ Some shape
    statics_lie (refs.Scalar n) shape there = there
    statics_lie (refs.Local n) shape there = absurd (none-some shape there)
    statics_lie (refs.Static n) shape there = there

    names_suit : Suits file.scope f.locals 0 (object_in file f) (names_in file f)
    names_suit = record { fits = names_fit; holds = locals_held; lies = record { within = statics_lie; below = λ k low. refl } }

    typed_function : IsFunctionIn file.scope f → IsTypedFunction file f
    typed_function right = record {
      result = right.kind;
      parameters = right.within;
      single = right.single;
      locals = right.locals (object_in file f) (names_in file f) names_suit;
      tree = right.tree (object_in file f) (names_in file f) names_suit;
    }

  -- an object has the names of any function
  abbrev any_function : TypedFunction
  any_function = record { name = []; result = None; parameters = 0; locals = []; body = Break }

  typed_static : (o : StaticTree) → IsStaticIn file.scope o → IsStatic file o
  typed_static o right = right (names_in file any_function) (names_fit any_function)

  pub typed_at_end : IsTypedFile file
  typed_at_end = record {
    statics = All-weaker (IsStaticIn file.scope) (IsStatic file) typed_static file.statics known.statics;
    functions = All-weaker (IsFunctionIn file.scope) (IsTypedFunction file) typed_function file.functions known.functions;
    names_differ = known.names_differ;
  }
