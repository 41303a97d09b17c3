-- Lists of accesses, with the cuts between blocks, from those of parts: of two operands, of names, of what is assigned to (docs/TRANSLATION.md,
-- "Accesses of sources"). A list stands as what it does in front of the blocks that follow it.
use Rattle.std.specs.Prelude.{ℕ, suc, Bool, true, false}
use Rattle.c_tree.specs.declared.program.VarRef.{VarRef}
use Rattle.c_tree.specs.declared.program.VarRef.TheVariants.{Scalar, Local, Static}
use Rattle.acc_code.specs.AccSequence.{Rest, access, cut}

abbrev pub Marks : Type 0
Marks = Rest → Rest

-- an expression for its value, and as a condition
pub record Listed : Type 0 where
  pub value : Marks
  pub condition : Marks

-- most are no conditions by themselves, and those that are end with one more cut where their value is wanted
abbrev pub of_value : Marks → Listed
of_value v = record { value = v; condition = λ κ. v (cut κ) }

abbrev pub of_condition : Marks → Listed
of_condition c = record { value = λ κ. c (cut κ); condition = c }

abbrev pub name_accesses : VarRef → Marks
name_accesses (Scalar n) κ = access n κ
name_accesses (Local n) κ = κ
name_accesses (Static n) κ = κ

abbrev pub cut_where : Bool → Marks
cut_where true κ = cut κ
cut_where false κ = κ

-- two operands, of which the right one is simple, or the left one constant: else the left one waits in a temporary while the right one is
-- found, one temporary deeper
abbrev pub of_operands : Bool → Bool → ℕ → Marks → Marks → Marks → Marks
of_operands true constant t left right deeper κ = left (right κ)
of_operands false true t left right deeper κ = right κ
of_operands false false t left right deeper κ = left (access t (deeper (access t κ)))

-- a store through a pointer, which waits where the word isn't simple
abbrev pub assigned_through : Bool → ℕ → Marks → Marks → Marks → Marks
assigned_through true t pointer word deeper κ = pointer (word κ)
assigned_through false t pointer word deeper κ = pointer (access t (deeper (access t κ)))

-- an operation on what a pointer points to: where the operand isn't simple the pointer waits, and the old word behind it
abbrev pub updated_through : Bool → Bool → ℕ → Marks → Marks → Marks → Marks
updated_through true routine t pointer word deeper κ = pointer (word (cut_where routine κ))
updated_through false routine t pointer word deeper κ = pointer (access t (access (suc t) (deeper (access (suc t) (cut_where routine (access t κ))))))

-- an argument waits in a temporary, unless it is the last one
abbrev pub waits : Bool → ℕ → Marks
waits true t κ = κ
waits false t κ = access t κ
