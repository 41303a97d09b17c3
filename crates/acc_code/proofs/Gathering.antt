-- Blocks of accesses, gathered part by part.
use Rattle.std.proofs.Common.{◌≡◌, ℕ, refl, ap, ◌∙◌, List, [], ◌∷◌, ◌++◌, take, get_or, ◌<◌, ◌+◌, length, map, subst, sym, rules, Result, OnOk}
use Rattle.std.proofs.lemmas.List.{append-nil, take_more}
use Rattle.std.proofs.lemmas.Result.{on_ok_weaker}
use Rattle.lay_model.specs.Sequences.{Block}
use Rattle.acc_code.specs.AccTree.{Item, If, Loop, Switch, ItemList, item}
use Rattle.acc_code.specs.AccView.{item_of, items_of, item_list}
use Rattle.acc_code.specs.AccSequence.{Rest, Gathers, accesses, blocks_of, cut, item_accesses, once}
use Rattle.acc_code.specs.declared.item.AccItem as coded
use Rattle.acc_code.specs.declared.item.AccItem.{AccItem, Row_of-AccItem, end_of-AccItem, more_of-AccItem, items-the_row-AccItem}

rows : (m : _) (k : Row_of-AccItem m) → items_of k ≡ item_list (items-the_row-AccItem m k)
rows m end_of-AccItem = refl
rows m (more_of-AccItem {n = n} x rest) = ap (item (item_of x)) (rows n rest)

-- items of lists in memory
pub if_of_lists : (test : _) (hit miss : _) → item_of (coded.If test hit miss) ≡ If test (item_list hit.items) (item_list miss.items)
if_of_lists test hit miss = search (rules, coded.the_lemmas, rows)

pub loop_of_lists : (before body behind : _) (last : _)
    → item_of (coded.Loop before body behind last) ≡ Loop (item_list before.items) (item_list body.items) (item_list behind.items) last
loop_of_lists before body behind last = search (rules, coded.the_lemmas, rows)

pub switch_of_lists : (cases body : _) → item_of (coded.Switch cases body) ≡ Switch cases.items (item_list body.items)
switch_of_lists cases body = search (rules, coded.the_lemmas, rows)

-- one part and then another
pub both_gathered : (a b c : List Block) (x y z : List ℕ) (f g : Rest → Rest) → Gathers a x f b y → Gathers b y g c z → Gathers a x (λ rest. f (g rest)) c z
both_gathered a b c x y z f g first second = λ rest. first (g rest) ∙ second rest

accesses_more : (xs : List AccItem) (x : AccItem) (rest : Rest) → accesses (item_list (xs ++ x ∷ [])) rest ≡ accesses (item_list xs) (item_accesses (item_of x) rest)
accesses_more [] x rest = refl
accesses_more (y ∷ ys) x rest = ap (item_accesses (item_of y)) (accesses_more ys x rest)

-- a turn of the loop over items
pub gathered_further : (a b c : List Block) (x y z : List ℕ) (list : List AccItem) (i : ℕ) (one : AccItem) → one ≡ get_or list i one → i < length list
    → Gathers a x (accesses (item_list (take i list))) b y → Gathers b y (item_accesses (item_of one)) c z
    → Gathers a x (accesses (item_list (take (i + 1) list))) c z
gathered_further a b c x y z list i one is within first second = λ rest.
    ap (λ l. a ++ map once (accesses (item_list l) rest x)) (take_more list i one within ∙ ap (λ y. take i list ++ y ∷ []) (sym is))
    ∙ ap (λ f. a ++ map once (f x)) (accesses_more (take i list) one rest)
    ∙ both_gathered a b c x y z (accesses (item_list (take i list))) (item_accesses (item_of one)) first second rest

-- behind two parts, where the second one was gone through without want of memory
pub then_gathered : {T E : Type 0} (a b c : List Block) (x y z : List ℕ) (f g : Rest → Rest) (r : Result T E) → Gathers a x f b y → OnOk r (Gathers b y g c z)
    → OnOk r (Gathers a x (λ rest. f (g rest)) c z)
then_gathered a b c x y z f g r first second = on_ok_weaker r (both_gathered a b c x y z f g first) second

-- all of a body
pub all_gathered : (b c : List Block) (y z : List ℕ) (body : ItemList) → Gathers [] [] (accesses body) b y → Gathers b y cut c z → map once (blocks_of body) ≡ c
all_gathered b c y z body first second =
    first (cut (λ block. [])) ∙ second (λ block. []) ∙ append-nil c

-- an item in memory that is another one
same_item : {T E : Type 0} (r : Result T E) (a b : List Block) (x y : List ℕ) (one : AccItem) (f : Item) → item_of one ≡ f
    → OnOk r (Gathers a x (item_accesses f) b y) → OnOk r (Gathers a x (item_accesses (item_of one)) b y)
same_item r a b x y one f is h = subst (λ i. OnOk r (Gathers a x (item_accesses i) b y)) (sym is) h

-- the items of an If, a Loop and a Switch in memory
pub if_items : (one : AccItem) (test : _) (hit miss : _) (first second : List AccItem) → one ≡ coded.If test hit miss → first ≡ hit.items → second ≡ miss.items
    → item_of one ≡ If test (item_list first) (item_list second)
if_items one test hit miss first second is of_first of_second =
    ap item_of is ∙ if_of_lists test hit miss ∙ sym (ap (λ l. If test (item_list l) (item_list second)) of_first ∙ ap (λ l. If test (item_list hit.items) (item_list l)) of_second)

pub if_gathered : {T E : Type 0} (r : Result T E) (a b c d : List Block) (x y z w : List ℕ) (one : AccItem) (test : _) (first second : ItemList)
    → item_of one ≡ If test first second
    → Gathers a x cut b y → Gathers b y (λ rest. accesses first (cut rest)) c z
    → OnOk r (Gathers c z (λ rest. accesses second (cut rest)) d w) → OnOk r (Gathers a x (item_accesses (item_of one)) d w)
if_gathered r a b c d x y z w one test first second is start middle last =
    same_item r a d x w one (If test first second) is
    (on_ok_weaker r (λ h rest. start (accesses first (cut (accesses second (cut rest)))) ∙ middle (accesses second (cut rest)) ∙ h rest) last)

pub loop_items : (one : AccItem) (before body behind : _) (last : _) (first second third : List AccItem) → one ≡ coded.Loop before body behind last
    → first ≡ before.items → second ≡ body.items → third ≡ behind.items → item_of one ≡ Loop (item_list first) (item_list second) (item_list third) last
loop_items one before body behind last first second third is of_first of_second of_third =
    ap item_of is ∙ loop_of_lists before body behind last
    ∙ sym (ap (λ l. Loop (item_list l) (item_list second) (item_list third) last) of_first
    ∙ ap (λ l. Loop (item_list before.items) (item_list l) (item_list third) last) of_second
    ∙ ap (λ l. Loop (item_list before.items) (item_list body.items) (item_list l) last) of_third)

pub loop_gathered : {T E : Type 0} (r : Result T E) (a b c d e : List Block) (x y z w v : List ℕ) (one : AccItem) (last : _) (first second third : ItemList)
    → item_of one ≡ Loop first second third last
    → Gathers a x cut b y → Gathers b y (λ rest. accesses first (cut rest)) c z → Gathers c z (λ rest. accesses second (cut rest)) d w
    → OnOk r (Gathers d w (λ rest. accesses third (cut rest)) e v) → OnOk r (Gathers a x (item_accesses (item_of one)) e v)
loop_gathered r a b c d e x y z w v one last first second third is start middle more behind =
    same_item r a e x v one (Loop first second third last) is
    (on_ok_weaker r
    (λ h rest. start (accesses first (cut (accesses second (cut (accesses third (cut rest))))))
    ∙ middle (accesses second (cut (accesses third (cut rest)))) ∙ more (accesses third (cut rest)) ∙ h rest)
    behind)

pub switch_items : (one : AccItem) (cases body : _) (first : List AccItem) → one ≡ coded.Switch cases body → first ≡ body.items
    → item_of one ≡ Switch cases.items (item_list first)
switch_items one cases body first is of_first = ap item_of is ∙ switch_of_lists cases body ∙ sym (ap (λ l. Switch cases.items (item_list l)) of_first)

pub switch_gathered : {T E : Type 0} (r : Result T E) (a b c : List Block) (x y z : List ℕ) (one : AccItem) (labels : _) (first : ItemList)
    → item_of one ≡ Switch labels first → Gathers a x cut b y
    → OnOk r (Gathers b y (λ rest. accesses first (cut rest)) c z) → OnOk r (Gathers a x (item_accesses (item_of one)) c z)
switch_gathered r a b c x y z one labels first is start body =
    same_item r a c x z one (Switch labels first) is (on_ok_weaker r (λ h rest. start (accesses first (cut rest)) ∙ h rest) body)

pub gathered_from : (a b c : List Block) (x y z : List ℕ) (walked body : List AccItem) → walked ≡ body → a ≡ [] → x ≡ []
    → Gathers a x (accesses (item_list walked)) b y → Gathers b y cut c z → map once (blocks_of (item_list body)) ≡ c
gathered_from a b c x y z walked body of_body no_blocks no_block first second =
    ap (λ l. map once (blocks_of (item_list l))) (sym of_body)
    ∙ all_gathered b c y z (item_list walked) (subst (λ l. Gathers l [] (accesses (item_list walked)) b y) no_blocks (subst (λ l. Gathers a l (accesses (item_list walked)) b y) no_block first)) second
