-- Which line is bad, and which commands the lines spell.
use Rattle.std.proofs.Common.{◌≡◌, ◌≢◌, ℕ, zero, suc, ◌+◌, ◌-◌, ◌<◌, List, [], ◌∷◌, ◌++◌, length, get_or, take, drop, take-append-drop, refl, sym, ap, subst, ◌∙◌, arith, length-append}
use Rattle.std.specs.Prelude.{All}
use Rattle.std.specs.List.{AllZip}
use Rattle.std.specs.Str.Lines.{lines}
use Rattle.std.proofs.lemmas.List.{take_all, drop_more, length-take}
use Rattle.text_base.specs.FilledLines.{filled, filled_to, Place, read_to, HasRead, HasReadAll}
use Rattle.text_base.proofs.FilledTexts.{filled-append, filled_split, take_more}
use Rattle.c25_debug.specs.declared.command.Command.{Command}
use Rattle.c25_debug.specs.Script.{InRange, Spells, ScriptText, IsFirstBad}
use Rattle.c25_debug.proofs.ScriptLines.{spells_one}

-- ---- commands line by line

pub spelled_more : (texts : List (List ℕ)) (script : List Command) (line : List ℕ) (c : Command) → AllZip Spells texts script → Spells line c → AllZip Spells (texts ++ line ∷ []) (script ++ c ∷ [])
spelled_more [] [] line c h s = (s, tt {0})
spelled_more [] (d ∷ script) line c h s = absurd h
spelled_more (text ∷ texts) [] line c h s = absurd h
spelled_more (text ∷ texts) (d ∷ script) line c h s = (h.0, spelled_more texts script line c h.1 s)

spelled_one : (texts : List (List ℕ)) (one two : List Command) → AllZip Spells texts one → AllZip Spells texts two → one ≡ two
spelled_one [] [] [] g h = refl
spelled_one [] [] (d ∷ two) g h = absurd h
spelled_one [] (c ∷ one) two g h = absurd g
spelled_one (text ∷ texts) [] two g h = absurd g
spelled_one (text ∷ texts) (c ∷ one) [] g h = absurd h
spelled_one (text ∷ texts) (c ∷ one) (d ∷ two) g h =
    let first = spells_one text c d g.0 h.0 in
    let others = spelled_one texts one two g.1 h.1 in
    cc (first, others)

pub spelled_in_range : (texts : List (List ℕ)) (script : List Command) → AllZip Spells texts script → All InRange script
spelled_in_range texts [] h = λ k d lt. absurd (omega arith)
spelled_in_range [] (c ∷ script) h = absurd h
spelled_in_range (text ∷ texts) (c ∷ script) h = each (spelled_in_range texts script h.1)
  where
    each : All InRange script → (k : ℕ) (d : Command) → k < length (c ∷ script) → InRange (get_or (c ∷ script) k d)
    each others zero d lt = h.0.in_range
    each others (suc k) d lt = others k d (omega arith)

-- ---- the first bad line

filled_some : (line : List ℕ) (more : List (List ℕ)) → line ≢ [] → filled (line ∷ more) ≡ line ∷ filled more
filled_some [] more some = absurd (some refl)
filled_some (b ∷ bs) more some = refl

-- the line behind those of a front is the one that a filled line is
line_is : (line text : List ℕ) (front : List (List ℕ)) → filled (text ∷ []) ≡ line ∷ [] → (text ≡ line) × (line ≢ [])
line_is line [] front e = absurd cc
line_is line (b ∷ bs) front e = let same : b ∷ bs ≡ line = cc in (same, λ none. absurd (let f : b ∷ bs ≡ [] = same ∙ none in cc))

same_behind : (xs ys zs : List (List ℕ)) → xs ++ ys ≡ xs ++ zs → ys ≡ zs
same_behind [] ys zs e = e
same_behind (x ∷ xs) ys zs e = same_behind xs ys zs cc

pub bad_here : (p : Place) (front : List (List ℕ)) (line : List ℕ) (script : List Command) → HasRead front line p → AllZip Spells front script → ((c : Command) → Spells line c → ⊥) → IsFirstBad p.bytes p.number
bad_here p front line script r good bad =
    let all = lines p.bytes in
    let n = p.number - 1 in
    let next : n + 1 ≡ p.number = omega (arith, r.from_one) in
    let lt : n < length all = omega (arith, r.from_one, r.there) in
    let text = get_or all n [] in
    let rest : drop n all ≡ text ∷ drop (n + 1) all = drop_more all n [] lt in
    let taken : take (n + 1) all ≡ take n all ++ text ∷ [] = take_one all n lt in
    let one : filled_to n p.bytes ++ filled (text ∷ []) ≡ filled_to n p.bytes ++ line ∷ [] =
    sym (filled-append (take n all) (text ∷ [])) ∙ ap filled (sym taken) ∙ ap (λ k. filled_to k p.bytes) next ∙ r.all ∙ ap (λ l. l ++ line ∷ []) (sym r.front) in
    let is = line_is line text (take n all) (same_behind (filled_to n p.bytes) (filled (text ∷ [])) (line ∷ []) one) in
    record {
      front = take n all;
      line = line;
      back = drop (n + 1) all;
      cut = sym (take-append-drop n all) ∙ ap (λ l. take n all ++ l) (rest ∙ ap (λ t. t ∷ drop (n + 1) all) is.0);
      counted = omega (arith, next, length-take n all, lt);
      script = script;
      good = subst (λ texts. AllZip Spells texts script) (sym r.front) good;
      some = is.1;
      bad = bad;
    }
  where
    take_one : (xs : List (List ℕ)) (k : ℕ) → k < length xs → take (k + 1) xs ≡ take k xs ++ get_or xs k [] ∷ []
    take_one xs k lt = (take_more k xs (drop (k + 1) xs) (get_or xs k []) (drop_more xs k [] lt)).0

-- a line that is bad has no place among those that are good
no_bad_within : (front back : List (List ℕ)) (line : List ℕ) (script : List Command) → line ≢ [] → AllZip Spells (filled (front ++ line ∷ back)) script → ((c : Command) → Spells line c → ⊥) → ⊥
no_bad_within front back line script some h bad =
    within (filled front) script (subst (λ texts. AllZip Spells texts script) (filled-append front (line ∷ back) ∙ ap (λ texts. filled front ++ texts) (filled_some line back some)) h)
  where
    within : (texts : List (List ℕ)) (commands : List Command) → AllZip Spells (texts ++ line ∷ filled back) commands → ⊥
    within [] [] g = absurd g
    within [] (c ∷ commands) g = bad c g.0
    within (text ∷ texts) [] g = absurd g
    within (text ∷ texts) (c ∷ commands) g = within texts commands g.1

pub bad_no_text : (bytes : List ℕ) (number : ℕ) (script : List Command) → IsFirstBad bytes number → ScriptText bytes script → ⊥
bad_no_text bytes number script b text = no_bad_within b.front b.back b.line script b.some (subst (λ all. AllZip Spells (filled all) script) b.cut text) b.bad

-- of two first bad lines neither is before the other
same_place : (xs ys back more : List (List ℕ)) (line other : List ℕ) (one two : List Command) → xs ++ line ∷ back ≡ ys ++ other ∷ more → AllZip Spells (filled xs) one → AllZip Spells (filled ys) two
    → line ≢ [] → other ≢ [] → ((c : Command) → Spells line c → ⊥) → ((c : Command) → Spells other c → ⊥) → length xs ≡ length ys
same_place [] [] back more line other one two e g h some too bad worse = refl
same_place [] (y ∷ ys) back more line other one two e g h some too bad worse =
    let first : y ≡ line = cc in
    absurd (no_bad_within [] ys line two some (subst (λ l. AllZip Spells (filled (l ∷ ys)) two) first h) bad)
same_place (x ∷ xs) [] back more line other one two e g h some too bad worse =
    let first : x ≡ other = cc in
    absurd (no_bad_within [] xs other one too (subst (λ l. AllZip Spells (filled (l ∷ xs)) one) first g) worse)
same_place (x ∷ xs) (y ∷ ys) back more line other one two e g h some too bad worse =
    let left = others x xs one g in
    let right = others y ys two h in
    ap suc (same_place xs ys back more line other left.0 right.0 (cc) left.1 right.1 some too bad worse)
  where
    others : (text : List ℕ) (texts : List (List ℕ)) (script : List Command) → AllZip Spells (filled (text ∷ texts)) script → (rest : List Command) × AllZip Spells (filled texts) rest
    others [] texts script a = (script, a)
    others (b ∷ bs) texts [] a = absurd a
    others (b ∷ bs) texts (c ∷ script) a = (script, a.1)

pub bad_one : (bytes : List ℕ) (m n : ℕ) → IsFirstBad bytes m → IsFirstBad bytes n → m ≡ n
bad_one bytes m n b c =
    let same = same_place b.front c.front b.back c.back b.line c.line b.script c.script (sym b.cut ∙ c.cut) b.good c.good b.some c.some b.bad c.bad in
    omega (arith, b.counted, c.counted, same)

-- ---- all lines

pub text_of_all : (p : Place) (front : List (List ℕ)) (script : List Command) → HasReadAll front p → AllZip Spells front script → ScriptText p.bytes script
text_of_all p front script r good =
    let all : filled (lines p.bytes) ≡ front = ap filled (sym (take_all p.number (lines p.bytes) (omega (arith, r.there)))) ∙ r.all in
    subst (λ texts. AllZip Spells texts script) (sym all) good

pub text_one : (bytes : List ℕ) (one two : List Command) → ScriptText bytes one → ScriptText bytes two → one ≡ two
text_one bytes one two g h = spelled_one (filled (lines bytes)) one two g h

-- ---- the loop over the lines

-- how many lines that aren't blank are left
abbrev pub lines_left : Place → ℕ
lines_left p = length (filled (lines p.bytes)) - length (read_to p)

pub fewer_left : (p q : Place) (line : List ℕ) → q.bytes ≡ p.bytes → HasRead (read_to p) line q → lines_left q < lines_left p
fewer_left p q line same r =
    let total : length (filled (lines q.bytes)) ≡ length (filled (lines p.bytes)) = ap (λ b. length (filled (lines b))) same in
    let all = ap length (filled_split q.number (lines q.bytes)) in
    omega (arith, total, all, length-append (read_to q) (filled (drop q.number (lines q.bytes))), ap length r.all, length-append (read_to p) (line ∷ []))
