-- A source has at most one fault, but for the place that one of syntax names and for which one of types, and none where it is accepted.
use Rattle.std.proofs.Common.{◌≡◌, ℕ, List, refl, sym, ap, subst}
use Rattle.c_syntax.specs.declared.token.Token.{Token}
use Rattle.c_syntax.specs.Lexes.{Lexes}
use Rattle.c_syntax.proofs.OneReading.{one_token_list}
use Rattle.c_lexer.specs.declared.fault.LexFault.{LexFault}
use Rattle.c_lexer.proofs.OneAnswer.{says_one, lexes_not_says}
use Rattle.c_syntax.specs.SyntaxTree.{UnitTree}
use Rattle.c_tree.specs.TypedTree.{ProgramTree}
use Rattle.c_syntax.specs.Source.{IsSource, NoSource}
use Rattle.c_syntax.proofs.Rows.UnitOne.{one_source}
use Rattle.c_parser.specs.declared.fault.ParseFault.{ParseFault}
use Rattle.c_parser.specs.declared.fault.ParseFault.TheVariants as parse
use Rattle.c_rules.specs.declared.fault.TypeFault.{TypeFault}
use Rattle.c_rules.proofs.LawLemmas.{one_program, accepted}
use Rattle.frame_layouts.specs.declared.options.Options.{Options}
use Rattle.cc_compile.specs.Images.{source_jobs}
use Rattle.cc_compile.proofs.OneImage.{one_plan_fault, one_link_fault, plan_or_link, image_no_plan_fault, image_no_link_fault}
use Rattle.cc_compile.specs.SourceFaults.{HasFault, HasNoProgramFor, HasProgram, HasTree, IsTypedWith, IsLexFault, IsParseFault, IsSameFault, IsAccepted, IsUntyped, IsOfTypes}
use Rattle.cc_compile.specs.declared.fault.BuildFault.{BuildFault}
use Rattle.cc_compile.specs.declared.fault.BuildFault.TheVariants.{Lex, Parse, Types, Plan, Link, NoMemory}

-- bytes with a tree have no fault of the lexer, and their tokens have a tree
no_lexer_fault : (bytes : List ℕ) (P : UnitTree → Type 0) (l : LexFault) → HasTree bytes P → IsLexFault l bytes → ⊥
no_lexer_fault bytes P l h f = lexes_not_says bytes h.0 l f.0 h.2 f.1

no_source : (bytes : List ℕ) (P : UnitTree → Type 0) (tokens : List Token) → HasTree bytes P → Lexes bytes tokens → NoSource tokens → ⊥
no_source bytes P tokens h lexes n = n.never h.1 (subst (λ t. IsSource t h.1) (one_token_list bytes h.0 tokens h.2 lexes) h.3)

without_tree : (tokens : List Token) (why : ParseFault) → IsParseFault why tokens → NoSource tokens
without_tree tokens (parse.Syntax at) f = f.0
without_tree tokens parse.NoMemory f = absurd f

no_parse_fault : (o : Options) (bytes : List ℕ) (P : UnitTree → Type 0) (why : ParseFault) → HasTree bytes P → HasFault o bytes (Parse why) → ⊥
no_parse_fault o bytes P why h f = no_source bytes P f.0 h f.1 (without_tree f.0 why f.2)

-- bytes have one tree
pub both_of_tree : (bytes : List ℕ) (P Q : UnitTree → Type 0) → HasTree bytes P → HasTree bytes Q → (source : UnitTree) × P source × Q source
both_of_tree bytes P Q h k =
    let one = one_token_list bytes h.0 k.0 h.2 k.2 in
    let same = one_source k.0 h.1 k.1 (subst (λ t. IsSource t h.1) one h.3).derives k.3.derives in
    (k.1, subst P same h.4, k.4)

-- bytes have one typed program
pub both_of_program : (bytes : List ℕ) (P Q : ProgramTree → Type 0) → HasTree bytes (IsTypedWith P) → HasTree bytes (IsTypedWith Q) → (program : ProgramTree) × P program × Q program
both_of_program bytes P Q h k =
    let b = both_of_tree bytes _ _ h k in
    (b.2.0, subst P (one_program b.0 b.1.0 b.2.0 b.1.1 b.2.1) b.1.2, b.2.2)

-- a typed program goes with no fault of types
not_faulty : (o : Options) (bytes : List ℕ) (P : _) (why : TypeFault) → HasTree bytes (IsTypedWith P) → HasFault o bytes (Types why) → ⊥
not_faulty o bytes P why h k =
    let b = both_of_tree bytes _ _ h k in
    b.2.0 (accepted b.0 b.1.0 why b.1.1 b.2.1)

pub one_fault : (o : Options) (bytes : List ℕ) (a b : BuildFault) → HasFault o bytes a → HasFault o bytes b → IsSameFault a b
one_fault o bytes (Lex l) (Lex m) f g = sym (ap Lex (says_one bytes l m f.0 g.0 f.1 g.1))
one_fault o bytes (Lex l) (Parse why) f g = absurd (lexes_not_says bytes g.0 l f.0 g.1 f.1)
one_fault o bytes (Lex l) (Types why) f g = absurd (no_lexer_fault bytes _ l g f)
one_fault o bytes (Lex l) (Plan full) f g = absurd (no_lexer_fault bytes _ l g f)
one_fault o bytes (Lex l) (Link full) f g = absurd (no_lexer_fault bytes _ l g f)
one_fault o bytes (Parse why) (Lex l) f g = absurd (lexes_not_says bytes f.0 l g.0 f.1 g.1)
one_fault o bytes (Parse why) (Parse other) f g = (other, refl)
one_fault o bytes (Parse why) (Types other) f g = absurd (no_parse_fault o bytes _ why g f)
one_fault o bytes (Parse why) (Plan full) f g = absurd (no_parse_fault o bytes _ why g f)
one_fault o bytes (Parse why) (Link full) f g = absurd (no_parse_fault o bytes _ why g f)
one_fault o bytes (Types why) (Lex l) f g = absurd (no_lexer_fault bytes _ l f g)
one_fault o bytes (Types why) (Parse other) f g = absurd (no_parse_fault o bytes _ other f g)
one_fault o bytes (Types why) (Types other) f g = (other, refl)
one_fault o bytes (Types why) (Plan full) f g = absurd (not_faulty o bytes _ why g f)
one_fault o bytes (Types why) (Link full) f g = absurd (not_faulty o bytes _ why g f)
one_fault o bytes (Plan full) (Lex l) f g = absurd (no_lexer_fault bytes _ l f g)
one_fault o bytes (Link full) (Lex l) f g = absurd (no_lexer_fault bytes _ l f g)
one_fault o bytes (Plan full) (Parse other) f g = absurd (no_parse_fault o bytes _ other f g)
one_fault o bytes (Link full) (Parse other) f g = absurd (no_parse_fault o bytes _ other f g)
one_fault o bytes (Plan full) (Types other) f g = absurd (not_faulty o bytes _ other f g)
one_fault o bytes (Link full) (Types other) f g = absurd (not_faulty o bytes _ other f g)
one_fault o bytes (Plan why) (Plan other) f g = let b = both_of_program bytes _ _ f g in sym (ap Plan (one_plan_fault b.0 why other b.1 b.2))
one_fault o bytes (Plan why) (Link other) f g = let b = both_of_program bytes _ _ f g in absurd (plan_or_link (source_jobs o b.0) b.0 why other b.1 b.2)
one_fault o bytes (Link why) (Plan other) f g = let b = both_of_program bytes _ _ f g in absurd (plan_or_link (source_jobs o b.0) b.0 other why b.2 b.1)
one_fault o bytes (Link why) (Link other) f g = let b = both_of_program bytes _ _ f g in sym (ap Link (one_link_fault (source_jobs o b.0) b.0 why other b.1 b.2))
one_fault o bytes NoMemory b f g = absurd f
one_fault o bytes (Lex l) NoMemory f g = absurd g
one_fault o bytes (Parse why) NoMemory f g = absurd g
one_fault o bytes (Types why) NoMemory f g = absurd g
one_fault o bytes (Plan full) NoMemory f g = absurd g
one_fault o bytes (Link full) NoMemory f g = absurd g

-- an accepted source has no fault
pub accepted_no_fault : (o : Options) (bytes : List ℕ) (a : BuildFault) → IsAccepted o bytes → HasFault o bytes a → ⊥
accepted_no_fault o bytes (Lex l) h f = no_lexer_fault bytes _ l h f
accepted_no_fault o bytes (Parse why) h f = no_parse_fault o bytes _ why h f
accepted_no_fault o bytes (Types why) h f = not_faulty o bytes _ why h f
accepted_no_fault o bytes (Plan why) h f = let b = both_of_program bytes _ _ h f in image_no_plan_fault (source_jobs o b.0) b.0 b.1.0 why b.1.1 b.2
accepted_no_fault o bytes (Link why) h f = let b = both_of_program bytes _ _ h f in image_no_link_fault (source_jobs o b.0) b.0 b.1.0 why b.1.1 b.2
accepted_no_fault o bytes NoMemory h f = f

-- one without a typed program has none but of types
pub untyped_fault : (o : Options) (bytes : List ℕ) (a : BuildFault) → IsUntyped bytes → HasFault o bytes a → IsOfTypes a
untyped_fault o bytes (Lex l) u f = absurd (no_lexer_fault bytes _ l u f)
untyped_fault o bytes (Parse why) u f = absurd (no_parse_fault o bytes _ why u f)
untyped_fault o bytes (Types why) u f = (why, refl)
untyped_fault o bytes (Plan why) u f = let b = both_of_tree bytes _ _ f u in absurd (b.2 b.1.0 b.1.1)
untyped_fault o bytes (Link why) u f = let b = both_of_tree bytes _ _ f u in absurd (b.2 b.1.0 b.1.1)
untyped_fault o bytes NoMemory u f = absurd f

-- nor is it accepted
pub untyped_not_accepted : (o : Options) (bytes : List ℕ) → IsUntyped bytes → IsAccepted o bytes → ⊥
untyped_not_accepted o bytes u a = let b = both_of_tree bytes _ _ a u in b.2 b.1.0 b.1.1

-- one with a typed program has none of tokens, syntax or types
pub program_no_fault : (o : Options) (bytes : List ℕ) (program : ProgramTree) (a : BuildFault) → HasProgram bytes program → HasNoProgramFor a bytes → ⊥
program_no_fault o bytes program (Lex l) h f = no_lexer_fault bytes _ l h f
program_no_fault o bytes program (Parse why) h f = no_parse_fault o bytes _ why h f
program_no_fault o bytes program (Types why) h f = not_faulty o bytes (λ p. Unit {0}) why (h.0, h.1, h.2, h.3, (program, h.4, tt {0})) f
program_no_fault o bytes program (Plan why) h f = f
program_no_fault o bytes program (Link why) h f = f
program_no_fault o bytes program NoMemory h f = f

-- bytes have one typed program
pub same_program : (bytes : List ℕ) (p q : ProgramTree) → HasProgram bytes p → HasProgram bytes q → p ≡ q
same_program bytes p q h k =
    let b = both_of_tree bytes _ _ h k in
    one_program b.0 p q b.1 b.2
