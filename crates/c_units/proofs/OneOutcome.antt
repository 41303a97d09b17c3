-- Files are joined to one list of tokens or have one fault, but for the place that one of syntax names.
use Rattle.std.proofs.Common.{arith, Vec, Global, Ok, Err, IfOk, ◌≢◌, ◌≡◌, ◌∙◌, ℕ, ◌+◌, List, [], ◌∷◌, ◌++◌, length, Option, Some, None, refl, sym, ap, subst, inl, inr}
use Rattle.std.specs.Prelude.{unwrap_or, Result, IfErr, MatchResult}
use Rattle.c_tree.specs.c_syntax.declared.token.Token.{Token}
use Rattle.c_tree.specs.c_syntax.SyntaxTree.{UnitTree}
use Rattle.c_tree.specs.c_syntax.Source.{IsSource}
use Rattle.c_parser.specs.declared.fault.ParseFault.{ParseFault}
use Rattle.c_parser.specs.declared.fault.ParseFault.TheVariants as parse_faults
use Rattle.c_rules.specs.declared.fault.Rule.{Rule}
use Rattle.c_rules.specs.declared.fault.TypeFault.{TypeFault}
use Rattle.c_rules.specs.Checked.{Breaks}
use Rattle.c_rules.specs.Faults.{rule_fault}
use Rattle.c_rules.specs.Visits.{BrokenRule}
use Rattle.c_syntax.proofs.OneReading.{one_token_list}
use Rattle.c_syntax.proofs.Rows.UnitOne.{one_source}
use Rattle.c_lexer.proofs.OneAnswer.{says_one, lexes_not_says}
use Rattle.c_rules.proofs.LawLemmas.{broken_or_typed}
use Rattle.c_units.specs.declared.fault.UnitFault.{UnitFault}
use Rattle.c_units.specs.declared.fault.UnitFault.TheVariants.{Lex, Parse, Types, Reserved, Undefined, TooManyTokens, NoMemory}
use Rattle.c_units.specs.Externs.{AtStart, without_externs, extern_places}
use Rattle.c_units.specs.Files.{FileTree, HasTokens, HasTree, IsFile, AreFiles, IsSyntaxFault, BreaksRule, HasOwnFault, OfTokens, OfSyntax, OfTypes, HasFileFault}
use Rattle.c_units.specs.Statics.{static_name}
use Rattle.c_units.proofs.SpellingLemmas.{placed_by_kinds}
use Rattle.c_lexer.specs.TokenText.{tokens_text}
use Rattle.c_units.specs.Joining.{Joined, Joins, IsJoined, joint_fault, HasFault, IsSameFault}

-- ---- one file

one_left : (bytes : List ℕ) (ts us : List Token) (xs ys : List ℕ) → HasTokens bytes ts xs → HasTokens bytes us ys → ts ≡ us
one_left bytes ts us xs ys h k = h.left ∙ ap without_externs (one_token_list bytes h.all k.all h.lexes k.lexes) ∙ sym k.left

one_places : (bytes : List ℕ) (ts us : List Token) (xs ys : List ℕ) → HasTokens bytes ts xs → HasTokens bytes us ys → xs ≡ ys
one_places bytes ts us xs ys h k = h.places ∙ ap (extern_places AtStart) (one_token_list bytes h.all k.all h.lexes k.lexes) ∙ sym k.places

one_unit : (ts us : List Token) (x y : UnitTree) → ts ≡ us → IsSource ts x → IsSource us y → x ≡ y
one_unit ts us x y same s t = one_source us x y (subst (λ l. IsSource l x) same s).derives t.derives

same_file : (f g : FileTree) → f.tokens ≡ g.tokens → f.externs ≡ g.externs → f.unit ≡ g.unit → f ≡ g
same_file f g ts xs u =
    ap (λ (l : List Token). record { tokens = l; externs = f.externs; unit = f.unit }) ts
    ∙ ap (λ (l : List ℕ). record { tokens = g.tokens; externs = l; unit = f.unit }) xs
    ∙ ap (λ (x : UnitTree). record { tokens = g.tokens; externs = g.externs; unit = x }) u

one_tree : (bytes : List ℕ) (f g : FileTree) → HasTree bytes f → HasTree bytes g → f ≡ g
one_tree bytes f g h k =
    let ts = one_left bytes f.tokens g.tokens f.externs g.externs h.tokens k.tokens in
    same_file f g ts (one_places bytes f.tokens g.tokens f.externs g.externs h.tokens k.tokens) (one_unit f.tokens g.tokens f.unit g.unit ts h.source k.source)

abbrev broken : Rule → ℕ → BrokenRule
broken rule at = record { rule = rule; at = at }

one_breach : (unit : UnitTree) (a b : TypeFault) → BreaksRule unit a → BreaksRule unit b → a ≡ b
one_breach unit a b h k =
    let same : Some (broken h.rule h.at) ≡ Some (broken k.rule k.at) = sym h.breaks ∙ k.breaks in
    h.is ∙ same_fault h.rule k.rule h.at k.at same ∙ sym k.is
  where
    same_fault : (r s : Rule) (m n : ℕ) → Some (broken r m) ≡ Some (broken s n) → rule_fault r m ≡ rule_fault s n
    same_fault r s m n e = ap (λ (found : Option BrokenRule). let one : BrokenRule = unwrap_or found (broken r m) in rule_fault one.rule one.at) e

no_syntax_fault : (tokens : List Token) (unit : UnitTree) (why : ParseFault) → IsSource tokens unit → IsSyntaxFault why tokens → ⊥
no_syntax_fault tokens unit (parse_faults.Syntax at) source fault = fault.0.never unit source
no_syntax_fault tokens unit parse_faults.NoMemory source fault = fault

-- a file with a tree has no fault of its tokens or syntax
tree_not : (bytes : List ℕ) (file : FileTree) (tokens : List Token) (externs : List ℕ) (why : ParseFault) → HasTree bytes file → HasTokens bytes tokens externs → IsSyntaxFault why tokens → ⊥
tree_not bytes file tokens externs why h k fault =
    no_syntax_fault tokens file.unit why (subst (λ l. IsSource l file.unit) (one_left bytes file.tokens tokens file.externs externs h.tokens k) h.source) fault

-- what a file is that fits has no fault of its own
file_not : (number : ℕ) (bytes : List ℕ) (file : FileTree) (fault : UnitFault) → IsFile bytes file → HasOwnFault number bytes fault → ⊥
file_not number bytes file fault is (OfTokens why e some says) = lexes_not_says bytes is.tree.tokens.all why some is.tree.tokens.lexes says
file_not number bytes file fault is (OfSyntax why e tokens externs has syntax) = tree_not bytes file tokens externs why is.tree has syntax
file_not number bytes file fault is (OfTypes why e other has breaks) =
    broken_or_typed file.unit breaks.rule breaks.at is.valid.file
    (subst (λ f. Breaks f.unit breaks.rule breaks.at) (sym (one_tree bytes file other is.tree has)) breaks.breaks) is.valid.typed

-- and of its own faults it has one
same_as : (a b : UnitFault) → b ≡ a → IsSameFault a b
same_as (Lex n why) b e = e
same_as (Parse n why) b e = (why, e)
same_as (Types n why) b e = e
same_as (Reserved n at) b e = e
same_as (Undefined name) b e = e
same_as (TooManyTokens count) b e = e
same_as NoMemory b e = e

one_own : (number : ℕ) (bytes : List ℕ) (a b : UnitFault) → HasOwnFault number bytes a → HasOwnFault number bytes b → IsSameFault a b
one_own number bytes a b (OfTokens l e some says) (OfTokens m f other also) = same_as a b (f ∙ ap (Lex number) (sym (says_one bytes l m some other says also)) ∙ sym e)
one_own number bytes a b (OfTokens l e some says) (OfSyntax why f tokens externs has syntax) = absurd (lexes_not_says bytes has.all l some has.lexes says)
one_own number bytes a b (OfTokens l e some says) (OfTypes why f file has breaks) = absurd (lexes_not_says bytes has.tokens.all l some has.tokens.lexes says)
one_own number bytes a b (OfSyntax why e tokens externs has syntax) (OfTokens l f some says) = absurd (lexes_not_says bytes has.all l some has.lexes says)
one_own number bytes a b (OfSyntax why e tokens externs has syntax) (OfSyntax other f ts xs also too) = subst (λ x. IsSameFault x b) (sym e) (other, f)
one_own number bytes a b (OfSyntax why e tokens externs has syntax) (OfTypes other f file also breaks) = absurd (tree_not bytes file tokens externs why also has syntax)
one_own number bytes a b (OfTypes why e file has breaks) (OfTokens l f some says) = absurd (lexes_not_says bytes has.tokens.all l some has.tokens.lexes says)
one_own number bytes a b (OfTypes why e file has breaks) (OfSyntax other f tokens externs also syntax) = absurd (tree_not bytes file tokens externs other has also syntax)
one_own number bytes a b (OfTypes why e file has breaks) (OfTypes other f second also too) =
    same_as a b (f ∙ ap (Types number) (sym (one_breach second.unit why other (subst (λ x. BreaksRule x.unit why) (one_tree bytes file second has also) breaks) too)) ∙ sym e)

-- ---- several

one_list : (sources : List (List ℕ)) (fs gs : List FileTree) → AreFiles sources fs → AreFiles sources gs → fs ≡ gs
one_list [] [] [] a b = refl
one_list [] [] (g ∷ gs) a b = absurd b
one_list [] (f ∷ fs) gs a b = absurd a
one_list (s ∷ ss) [] gs a b = absurd a
one_list (s ∷ ss) (f ∷ fs) [] a b = absurd b
one_list (s ∷ ss) (f ∷ fs) (g ∷ gs) a b = both (one_tree s f g a.0.tree b.0.tree) (one_list ss fs gs a.1 b.1)
  where
    both : f ≡ g → fs ≡ gs → f ∷ fs ≡ g ∷ gs
    both d e = cc

head_one : {A : Type 0} (x y : A) (xs ys : List A) → x ∷ xs ≡ y ∷ ys → x ≡ y
head_one x y xs ys e = cc

tail_one : {A : Type 0} (x y : A) (xs ys : List A) → x ∷ xs ≡ y ∷ ys → xs ≡ ys
tail_one x y xs ys e = cc

-- the first file with a fault of its own is one, whose number is so many above that of the first file
first_one : (n p q : ℕ) (before : List (List ℕ)) (source : List ℕ) (after front : List (List ℕ)) (other : List ℕ) (back : List (List ℕ)) (fs gs : List FileTree) (a b : UnitFault)
    → before ++ source ∷ after ≡ front ++ other ∷ back → AreFiles before fs → AreFiles front gs → p ≡ length before + n → q ≡ length front + n
    → HasOwnFault p source a → HasOwnFault q other b → IsSameFault a b
first_one n p q [] source after [] other back fs gs a b e h k c d x y =
    let same : q ≡ p = omega (arith, c, d) in
    one_own p source a b x (subst (λ s. HasOwnFault p s b) (sym (head_one source other after back e)) (subst (λ m. HasOwnFault m other b) same y))
first_one n p q [] source after (s ∷ ss) other back fs [] a b e h k c d x y = absurd k
first_one n p q [] source after (s ∷ ss) other back fs (g ∷ gs) a b e h k c d x y =
    absurd (file_not p source g a (subst (λ t. IsFile t g) (sym (head_one source s after (ss ++ other ∷ back) e)) k.0) x)
first_one n p q (s ∷ ss) source after [] other back [] gs a b e h k c d x y = absurd h
first_one n p q (s ∷ ss) source after [] other back (f ∷ fs) gs a b e h k c d x y =
    absurd (file_not q other f b (subst (λ t. IsFile t f) (head_one s other (ss ++ source ∷ after) back e) h.0) y)
first_one n p q (s ∷ ss) source after (t ∷ more) other back [] gs a b e h k c d x y = absurd h
first_one n p q (s ∷ ss) source after (t ∷ more) other back (f ∷ fs) [] a b e h k c d x y = absurd k
first_one n p q (s ∷ ss) source after (t ∷ more) other back (f ∷ fs) (g ∷ gs) a b e h k c d x y =
    first_one (n + 1) p q ss source after more other back fs gs a b (tail_one s t (ss ++ source ∷ after) (more ++ other ∷ back) e) h.1 k.1 (omega (arith, c)) (omega (arith, d)) x y

-- files that all fit have none with a fault of its own
all_not : (n : ℕ) (before : List (List ℕ)) (source : List ℕ) (after : List (List ℕ)) (fs : List FileTree) (fault : UnitFault) → AreFiles (before ++ source ∷ after) fs → HasOwnFault n source fault → ⊥
all_not n [] source after [] fault h x = h
all_not n [] source after (f ∷ fs) fault h x = file_not n source f fault h.0 x
all_not n (s ∷ ss) source after [] fault h x = h
all_not n (s ∷ ss) source after (f ∷ fs) fault h x = all_not n ss source after fs fault h.1 x

files_not : (sources : List (List ℕ)) (fs : List FileTree) (fault : UnitFault) → AreFiles sources fs → HasFileFault sources fault → ⊥
files_not sources fs fault h x = all_not (length x.before + 1) x.before x.source x.following fs fault (subst (λ s. AreFiles s fs) x.are h) x.has

pub one_fault : (sources : List (List ℕ)) (a b : UnitFault) → HasFault sources a → HasFault sources b → IsSameFault a b
one_fault sources a b (inl x) (inl y) = first_one 1 (length x.before + 1) (length y.before + 1) x.before x.source x.following y.before y.source y.following x.files y.files a b (sym x.are ∙ y.are) x.read y.read refl refl x.has y.has
one_fault sources a b (inl x) (inr y) = absurd (files_not sources y.files a y.are x)
one_fault sources a b (inr x) (inl y) = absurd (files_not sources x.files b x.are y)
one_fault sources a b (inr x) (inr y) =
    let same : Some a ≡ Some b = sym x.has ∙ ap joint_fault (one_list sources x.files y.files x.are y.are) ∙ y.has in
    same_as a b (sym (some_one a b same))
  where
    some_one : (a b : UnitFault) → Some a ≡ Some b → a ≡ b
    some_one a b e = cc

pub joined_not : (sources : List (List ℕ)) (tokens : List Token) (fault : UnitFault) → Joins sources tokens → HasFault sources fault → ⊥
joined_not sources tokens fault j (inl x) = files_not sources j.files fault j.are x
joined_not sources tokens fault j (inr x) = none_some fault (sym j.no_fault ∙ ap joint_fault (one_list sources j.files x.files j.are x.are) ∙ x.has)
  where
    none_some : (fault : UnitFault) → None ≡ Some fault → ⊥
    none_some fault e = cc

pub one_joined : (sources : List (List ℕ)) (ts us : List Token) → Joins sources ts → Joins sources us → ts ≡ us
one_joined sources ts us j k =
    let files = one_list sources j.files k.files j.are k.are in
    let also = subst (λ fs. Joined static_name fs ts) files j.joined in
    also.placed ∙ placed_by_kinds 0 ts us (also.kinds ∙ sym k.joined.kinds) ∙ sym k.joined.placed

-- ---- what is answered

memory_only : (fault : UnitFault) → (fault ≢ NoMemory → ⊥) → fault ≡ NoMemory
memory_only (Lex n why) no_other = absurd (no_other (λ e. cc))
memory_only (Parse n why) no_other = absurd (no_other (λ e. cc))
memory_only (Types n why) no_other = absurd (no_other (λ e. cc))
memory_only (Reserved n at) no_other = absurd (no_other (λ e. cc))
memory_only (Undefined name) no_other = absurd (no_other (λ e. cc))
memory_only (TooManyTokens count) no_other = absurd (no_other (λ e. cc))
memory_only NoMemory no_other = refl

pub joined_answered : (sources : List (List ℕ)) (result : Result (Vec Token Global) UnitFault) (tokens : List Token) → IfOk result (λ found. Joins sources found.items)
    → IfErr result (λ fault. fault ≢ NoMemory → HasFault sources fault) → Joins sources tokens → MatchResult result (λ found. found.items ≡ tokens) (λ fault. fault ≡ NoMemory)
joined_answered sources (Ok found) tokens ok err joins = one_joined sources found.items tokens ok joins
joined_answered sources (Err fault) tokens ok err joins = memory_only fault (λ some. joined_not sources tokens fault joins (err some))

pub fault_answered : (sources : List (List ℕ)) (result : Result (Vec Token Global) UnitFault) (cause : UnitFault) → IfOk result (λ found. Joins sources found.items)
    → IfErr result (λ fault. fault ≢ NoMemory → HasFault sources fault) → HasFault sources cause → MatchResult result (λ found. ⊥) (λ fault. fault ≢ NoMemory → IsSameFault cause fault)
fault_answered sources (Ok found) cause ok err has = joined_not sources found.items cause ok has
fault_answered sources (Err fault) cause ok err has = λ some. one_fault sources cause fault has (err some)

-- and of texts

one_text : (sources : List (List ℕ)) (text : List ℕ) (tokens : List Token) → IsJoined sources text → Joins sources tokens → text ≡ tokens_text tokens
one_text sources text tokens joined joins = joined.is ∙ ap tokens_text (one_joined sources joined.tokens tokens joined.joins joins)

pub text_answered : (sources : List (List ℕ)) (result : Result (Vec ℕ Global) UnitFault) (tokens : List Token) → IfOk result (λ text. IsJoined sources text.items)
    → IfErr result (λ fault. fault ≢ NoMemory → HasFault sources fault) → Joins sources tokens → MatchResult result (λ text. text.items ≡ tokens_text tokens) (λ fault. fault ≡ NoMemory)
text_answered sources (Ok text) tokens ok err joins = one_text sources text.items tokens ok joins
text_answered sources (Err fault) tokens ok err joins = memory_only fault (λ some. joined_not sources tokens fault joins (err some))

pub text_refused : (sources : List (List ℕ)) (result : Result (Vec ℕ Global) UnitFault) (cause : UnitFault) → IfOk result (λ text. IsJoined sources text.items)
    → IfErr result (λ fault. fault ≢ NoMemory → HasFault sources fault) → HasFault sources cause → MatchResult result (λ text. ⊥) (λ fault. fault ≢ NoMemory → IsSameFault cause fault)
text_refused sources (Ok text) cause ok err has = joined_not sources ok.tokens cause ok.joins has
text_refused sources (Err fault) cause ok err has = λ some. one_fault sources cause fault has (err some)
