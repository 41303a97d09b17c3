-- Accumulator code, without memory (docs/TRANSLATION.md, "Accumulator code").
use Rattle.std.specs.Prelude.{ℕ, Bool, List}
use Rattle.c_tree.specs.declared.program.VarRef.{VarRef}
use Rattle.acc_code.specs.declared.item.CaseLabel.{CaseLabel}
use Rattle.acc_code.specs.declared.operand.AccOperand.{AccOperand}
use Rattle.acc_code.specs.declared.operand.HelperName.{HelperName}
use Rattle.acc_code.specs.declared.operation.AccOp.{AccOp}
use Rattle.acc_code.specs.declared.operation.Test.{Test}

mutual
  pub data Item : Type 0 where
    Op : AccOp → AccOperand → Item
    If : Test → ItemList → ItemList → Item
    -- before each turn, the turn's body, behind it, and whether the source's test stands there
    Loop : ItemList → ItemList → ItemList → Bool → Item
    Switch : List CaseLabel → ItemList → Item
    Case : ℕ → Item
    Clear : VarRef → ℕ → Item
    Call : ℕ → Item
    Helper : HelperName → Item
    Break : Item
    Continue : Item
    Return : Item

  pub data ItemList : Type 0 where
    end : ItemList
    item : Item → ItemList → ItemList

infixr 20 ◌▸◌
abbrev pub ◌▸◌ : Item → ItemList → ItemList
x ▸ xs = item x xs

infixr 15 ◌⧺◌
abbrev pub ◌⧺◌ : ItemList → ItemList → ItemList
end ⧺ ys = ys
item x xs ⧺ ys = item x (xs ⧺ ys)

-- a function: so many scalars, temporaries among them
pub record FunctionItems : Type 0 where
  pub name : List ℕ
  pub scalars : ℕ
  pub body : ItemList
