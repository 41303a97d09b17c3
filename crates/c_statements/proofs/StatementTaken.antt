-- Statements that hold others, from what was taken of their parts.
use Rattle.std.proofs.Common.{◌≡◌, ℕ, ◌<◌, max, List, [], ◌∷◌, ◌++◌, Option, Some, length, refl, sym, ap, subst, ◌∙◌, append_assoc, arith}
use Rattle.std.proofs.lemmas.List.{append-nil}
use Rattle.c_syntax.specs.declared.token.Token.{Token}
use Rattle.c_syntax.specs.declared.token.Keyword.TheVariants as keyword
use Rattle.c_syntax.specs.declared.token.Punct.TheVariants as mark
use Rattle.c_syntax.specs.declared.stmt.Stmt.{Stmt}
use Rattle.c_syntax.specs.declared.stmt.SwitchPart.{SwitchPart}
use Rattle.c_syntax.specs.SyntaxTree.{Expression, DeclarationTree, Statement, Block, DoWhile, If, IfElse, While, For, Switch, Statements, Choices, no_choice, chosen}
use Rattle.c_syntax.specs.Grammar.{IsMark, IsKeyword, place_of}
use Rattle.c_syntax.specs.Derives.{Closed, Open, IsTested, IsForHead, DerivesStatement, DerivesDeclarations, DerivesStatements, DerivesChoices, NoStatement}
use Rattle.c_syntax.specs.Measures.{statements_height, choices_height, statement_height}
use Rattle.c_syntax.specs.SyntaxView.{body_of, part_before}
use Rattle.c_cursor.specs.Front.{word_at}
use Rattle.c_cursor.specs.Takes.{Takes, IsOne, Both}
use Rattle.c_statements.specs.StatementRows.{IsStatement, tree_of, parts_of, IsBody, IsDoEnd}
use Rattle.c_cursor.proofs.TakesLemmas.{mapped, joined, one_fewer}
use Rattle.c_statements.proofs.StatementRows.{stated, do_row, if_row, if_else_row, while_row, for_row, switch_row, block_row, placed, add, body_more, statements_more, height_add, join, parts_more, choices_more, height_join, chosen_row}

-- a statement with the closing that it has
derived : {x : Statement} {k l : List Token} (r : Takes (IsStatement x l) k l) → Takes (λ a. DerivesStatement r.is.closing a x) k l
derived r = record { taken = r.taken; cut = r.cut; is = r.is.derives }

-- a tree that equals one, and tokens that equal those that are left
same_tree : {x z : Statement} {k l m : List Token} → z ≡ x → m ≡ l → Takes (IsStatement x l) k l → Takes (IsStatement z m) k m
same_tree {x = x} {k = k} {l = l} {m = m} e h r = subst (λ v. Takes (IsStatement v m) k m) (sym e) (subst (λ v. Takes (IsStatement x v) k v) (sym h) r)

pub same_taken : {x z : Statement} {k l : List Token} → z ≡ x → Takes (IsStatement x l) k l → Takes (IsStatement z l) k l
same_taken e r = same_tree e refl r

pub if_taken : {k l m n o : List Token} {at : ℕ} {e : Expression} {x z : Statement} → z ≡ If e x at → (0 < length k → at ≡ place_of k)
    → Takes (IsOne (IsKeyword keyword.If)) k l → Takes (λ a. IsTested [] a e) l m → Takes (IsStatement x n) m n → length m < length l → length n < length m → o ≡ n → (word_at n ≡ Some keyword.Else → ⊥)
    → Takes (IsStatement z o) k o
if_taken {n = n} {e = e} {x = x} s p q r t f g h w = let one = one_fewer q in same_tree s h (stated Open (If e x) (joined q (joined r t)) (omega arith) (p (omega arith)) w (if_row e x n))

pub if_else_taken : {k l m n o v : List Token} {at : ℕ} {e : Expression} {x y z : Statement} → z ≡ IfElse e x y at → (0 < length k → at ≡ place_of k)
    → Takes (IsOne (IsKeyword keyword.If)) k l → Takes (λ a. IsTested [] a e) l m → Takes (IsStatement x n) m n → word_at n ≡ Some keyword.Else → Takes (IsOne (IsKeyword keyword.Else)) n o → Takes (IsStatement y v) o v
    → length m < length l → length n < length m → length v < length o → Takes (IsStatement z v) k v
if_else_taken {n = n} {v = v} {e = e} {x = x} {y = y} s p q r t w u d f g h =
    let one = one_fewer q in
    let two = one_fewer u in
    same_tree s refl (stated d.is.closing (IfElse e x y) (joined q (joined r (joined t (joined u (derived d))))) (omega arith) (p (omega arith)) d.is.ends (if_else_row e x y n v w d.is.closing))

pub while_taken : {k l m n : List Token} {at : ℕ} {e : Expression} {x z : Statement} → z ≡ While e x at → (0 < length k → at ≡ place_of k)
    → Takes (IsOne (IsKeyword keyword.While)) k l → Takes (λ a. IsTested [] a e) l m → Takes (IsStatement x n) m n → length m < length l → length n < length m → Takes (IsStatement z n) k n
while_taken {e = e} {x = x} s p q r t f g = let one = one_fewer q in same_tree s refl (stated t.is.closing (While e x) (joined q (joined r (derived t))) (omega arith) (p (omega arith)) t.is.ends (while_row e x t.is.closing))

pub for_taken : {k l m : List Token} {at : ℕ} {e f g : Option Expression} {x z : Statement} → z ≡ For e f g x at → (0 < length k → at ≡ place_of k)
    → Takes (λ a. IsForHead a e f g) k l → Takes (IsStatement x m) l m → length l < length k → length m < length l → Takes (IsStatement z m) k m
for_taken {e = e} {f = f} {g = g} {x = x} s p q t h i = same_tree s refl (stated t.is.closing (For e f g x) (joined q (derived t)) (omega arith) (p (omega arith)) t.is.ends (for_row e f g x t.is.closing))

pub do_taken : {k l m n : List Token} {at : ℕ} {e : Expression} {x z : Statement} → z ≡ DoWhile x e at → (0 < length k → at ≡ place_of k)
    → Takes (IsOne (IsKeyword keyword.Do)) k l → Takes (IsStatement x m) l m → Takes (IsDoEnd e) m n → length m < length l → length n < length m → Takes (IsStatement z n) k n
do_taken {m = m} {e = e} {x = x} s p q r t f g = let one = one_fewer q in same_tree s refl (stated Closed (DoWhile x e) (joined q (joined r t)) (omega arith) (p (omega arith)) (tt {0}) (do_row x e m))

pub switch_taken : {k l m n o : List Token} {at choices_at : ℕ} {e : Expression} {x : Choices} {z : Statement} → z ≡ Switch e x choices_at at → (0 < length k → at ≡ place_of k) → (0 < length m → choices_at ≡ place_of m)
    → Takes (IsOne (IsKeyword keyword.Switch)) k l → Takes (λ a. IsTested [] a e) l m → Takes (IsOne (IsMark mark.OpenBrace)) m n → Takes (Both (λ a. DerivesChoices a x) (IsOne (IsMark mark.CloseBrace))) n o
    → length m < length l → length o < length n → Takes (IsStatement z o) k o
switch_taken {choices_at = choices_at} {e = e} {x = x} s p c q r t u f g =
    let one = one_fewer q in
    let two = one_fewer t in
    same_tree s refl (stated Closed (Switch e x choices_at) (joined q (joined r (joined (placed t (c (omega arith))) u))) (omega arith) (p (omega arith)) (tt {0}) (switch_row e x choices_at))

pub block_taken : {k l m : List Token} {at : ℕ} {xs : List DeclarationTree} {ys : Statements} {z : Statement} → z ≡ Block xs ys at → (0 < length k → at ≡ place_of k)
    → Takes (IsOne (IsMark mark.OpenBrace)) k l → Takes (IsBody xs ys) l m → length m < length l → Takes (IsStatement z m) k m
block_taken {xs = xs} {ys = ys} s p q r f = let one = one_fewer q in same_tree s refl (stated Closed (Block xs ys) (joined q r) (omega arith) (p (omega arith)) (tt {0}) (block_row xs ys))

-- one more statement of a body, and one more part of a switch
one_more : (c : _) (xs : List DeclarationTree) (ys : Statements) (y : Statement) (all : List Token) → Both (Both (λ a. DerivesDeclarations a xs) (λ a. DerivesStatements a ys)) (λ a. DerivesStatement c a y) all
    → Both (λ a. DerivesDeclarations a xs) (λ a. DerivesStatements a (add ys y)) all
one_more c xs ys y all r = record { front = r.first.front; rest = r.first.rest ++ r.rest; cut = r.cut ∙ ap (λ l. l ++ r.rest) r.first.cut ∙ append_assoc r.first.front r.first.rest r.rest; first = r.first.first; second = statements_more c r.first.rest r.rest ys y r.first.second r.second }

pub body_grown : {k l m n : List Token} {xs : List DeclarationTree} (ys : List Stmt) (y : Stmt) {zs : List Stmt} → zs ≡ ys ++ y ∷ [] → m ≡ l
    → Takes (Both (λ a. DerivesDeclarations a xs) (λ a. DerivesStatements a (body_of ys))) k l → Takes (IsStatement (tree_of y) n) m n → Takes (Both (λ a. DerivesDeclarations a xs) (λ a. DerivesStatements a (body_of zs))) k n
body_grown {k = k} {n = n} {xs = xs} ys y e h p q =
    let r = subst (λ v. Takes (Both (λ a. DerivesDeclarations a xs) (λ a. DerivesStatements a (body_of ys))) k v) (sym h) p in
    subst (λ v. Takes (Both (λ a. DerivesDeclarations a xs) (λ a. DerivesStatements a v)) k n) (sym (ap body_of e ∙ body_more ys y)) (mapped (one_more q.is.closing xs (body_of ys) (tree_of y)) (joined r (derived q)))

pub body_height : {m n r : ℕ} (d : ℕ) (ys : List Stmt) (y : Stmt) {zs : List Stmt} → zs ≡ ys ++ y ∷ [] → m ≡ max d (statements_height (body_of ys)) → n ≡ statement_height (tree_of y) → r ≡ max m n → r ≡ max d (statements_height (body_of zs))
body_height d ys y e f g h = let all = ap (λ v. statements_height (body_of v)) e ∙ ap statements_height (body_more ys y) ∙ height_add (body_of ys) (tree_of y) in omega arith

pub parts_grown : {k l m n : List Token} (ys : List SwitchPart) (y : SwitchPart) {zs : List SwitchPart} → zs ≡ ys ++ y ∷ [] → m ≡ l
    → Takes (λ a. DerivesChoices a (parts_of ys)) k l → Takes (λ a. DerivesChoices a (part_before y no_choice)) m n → Takes (λ a. DerivesChoices a (parts_of zs)) k n
parts_grown {k = k} {n = n} ys y e h p q =
    let r = subst (λ v. Takes (λ a. DerivesChoices a (parts_of ys)) k v) (sym h) p in
    subst (λ v. Takes (λ a. DerivesChoices a v) k n) (sym (ap parts_of e ∙ parts_more ys y))
    (mapped (λ a b. subst (λ v. DerivesChoices v (join (parts_of ys) (part_before y no_choice))) (sym b.cut) (choices_more b.front b.rest (parts_of ys) (part_before y no_choice) b.first b.second)) (joined r q))

pub parts_height : {m n r : ℕ} (ys : List SwitchPart) (y : SwitchPart) {zs : List SwitchPart} → zs ≡ ys ++ y ∷ [] → m ≡ choices_height (parts_of ys) → n ≡ choices_height (part_before y no_choice) → r ≡ max m n → r ≡ choices_height (parts_of zs)
parts_height ys y e f g h = let all = ap (λ v. choices_height (parts_of v)) e ∙ ap choices_height (parts_more ys y) ∙ height_join (parts_of ys) (part_before y no_choice) in omega arith

pub chosen_taken : {k l : List Token} {x : Statement} {z : Choices} → z ≡ chosen x no_choice → Takes (IsStatement x l) k l → Takes (λ a. DerivesChoices a z) k l
chosen_taken {k = k} {l = l} {x = x} e r = subst (λ v. Takes (λ a. DerivesChoices a v) k l) (sym e) (mapped (chosen_row x l) r)

-- a body before its first statement, and at its `}`
pub body_begun : {k l : List Token} {xs : List DeclarationTree} {ys : List Stmt} → ys ≡ [] → Takes (λ a. DerivesDeclarations a xs) k l → Takes (Both (λ a. DerivesDeclarations a xs) (λ a. DerivesStatements a (body_of ys))) k l
body_begun {k = k} {l = l} {xs = xs} e r = subst (λ v. Takes (Both (λ a. DerivesDeclarations a xs) (λ a. DerivesStatements a (body_of v))) k l) (sym e)
    (mapped (λ a d. record { front = a; rest = []; cut = sym (append-nil a); first = d; second = NoStatement }) r)

pub body_ended : {k l m : List Token} {xs : List DeclarationTree} {ys : Statements} → Takes (Both (λ a. DerivesDeclarations a xs) (λ a. DerivesStatements a ys)) k l → Takes (IsOne (IsMark mark.CloseBrace)) l m → Takes (IsBody xs ys) k m
body_ended p q = mapped (λ a r. record {
  front = r.first.front;
  rest = r.first.rest ++ r.rest;
  cut = r.cut ∙ ap (λ l. l ++ r.rest) r.first.cut ∙ append_assoc r.first.front r.first.rest r.rest;
  first = r.first.first;
  second = record { front = r.first.rest; rest = r.rest; cut = refl; first = r.first.second; second = r.second };
}) (joined p q)
