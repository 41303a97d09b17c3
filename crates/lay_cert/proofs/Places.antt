-- Lines lead on, or the next one can't stand there.
use Rattle.std.proofs.Common.{◌≡◌, ◌≢◌, ℕ, ◌+◌, ◌-◌, ◌<◌, ◌^◌, Bool, List, [], ◌∷◌, ◌++◌, refl, sym, ap, subst, ◌∙◌, arith, append_assoc, length-append}
use Rattle.std.specs.Prelude.{decimal}
use Rattle.std.proofs.lemmas.Fmt.{decimal_injective}
use Rattle.text_base.proofs.Numbers.{same_behind}
use Rattle.text_base.specs.Lines.{with_feed, lines_text, Lacks}
use Rattle.lay_cert.specs.declared.fault.CertFault.{CertFault}
use Rattle.lay_cert.specs.declared.fault.CertFault.TheVariants as faults
use Rattle.lay_cert.specs.Frames.{Frame}
use Rattle.lay_cert.specs.CertReading.{Part, Place, Unread, Inside, Finished, Turn, Goes, Ends, Step, Runs, Reached, EndsSo, Says}
use Rattle.lay_cert.specs.LineReading.{Cursor, Stands, Moves, BeginsNot, IsNotNext}
use Rattle.lay_cert.proofs.Numbers.{same_line, has_feed}

lines_push : (front : List (List ℕ)) (line more : List ℕ) → lines_text (front ++ line ∷ []) ++ more ≡ lines_text front ++ (with_feed line ++ more)
lines_push [] line more = append_assoc (with_feed line) [] more
lines_push (l ∷ ls) line more =
    append_assoc (with_feed l) (lines_text (ls ++ line ∷ [])) more ∙ ap (λ t. with_feed l ++ t) (lines_push ls line more) ∙ sym (append_assoc (with_feed l) (lines_text ls) (with_feed line ++ more))

runs_push : (p q r : Place) (front : List (List ℕ)) (line more : List ℕ) → Runs p front (with_feed line ++ more) q → Lacks 10 line → Step q line more (Goes r) → Runs p (front ++ line ∷ []) more r
runs_push p q r [] line more h w s = (r, w, subst (λ z. Step z line more (Goes r)) h s, refl)
runs_push p q r (l ∷ ls) line more h w s = (h.0, h.1, subst (λ t. Step p l t (Goes h.0)) (sym (lines_push ls line more)) h.2, runs_push h.0 q r ls line more h.3 w s)

pub reached_more : (bytes : List ℕ) (number : ℕ) (line more : List ℕ) (q r : Place) → Reached bytes number (with_feed line ++ more) q → Lacks 10 line → Step q line more (Goes r) → Reached bytes (number + 1) more r
reached_more bytes number line more q r h w s = record {
  front = h.front ++ line ∷ [];
  cut = h.cut ∙ sym (lines_push h.front line more);
  counted = omega (arith, h.counted, length-append h.front (line ∷ []));
  runs = runs_push Unread q r h.front line more h.runs w s;
}

pub reached_start : (bytes : List ℕ) → Reached bytes 0 bytes Unread
reached_start bytes = record { front = []; cut = refl; counted = refl; runs = refl }

-- the line that was read leads on
pub goes : (bytes : List ℕ) (o n : Cursor) (line : List ℕ) (q r : Place) → Stands bytes o q → Moves o line n → Step q line n.text (Goes r) → Stands bytes n r
goes bytes o n line q r h m s =
    subst (λ k. Reached bytes k n.text r) (sym m.next) (reached_more bytes o.number line n.text q r (subst (λ t. Reached bytes o.number t q) m.cut h) m.whole s)

-- it is where a fault is known
pub ends : (bytes : List ℕ) (o n : Cursor) (line : List ℕ) (q : Place) (fault : CertFault) → Stands bytes o q → Moves o line n → Step q line n.text (Ends fault) → EndsSo bytes fault
ends bytes o n line q fault h m s = record { place = q; number = o.number; line = line; more = n.text; reached = subst (λ t. Reached bytes o.number t q) m.cut h; whole = m.whole; step = s }

-- no line can stand at a place
abbrev pub NoneStands : Place → List ℕ → Type 0
NoneStands q text = (line more : List ℕ) (turn : Turn) → Lacks 10 line → text ≡ with_feed line ++ more → Step q line more turn → ⊥

pub stuck : (bytes : List ℕ) (number : ℕ) (text : List ℕ) (q : Place) → Reached bytes number text q → NoneStands q text → ((fs : List Frame) → q ≡ Finished fs → text ≢ []) → Says bytes (faults.BadLine (number + 1))
stuck bytes number text q h none open_yet =
    let before : number + 1 - 1 ≡ number = omega arith in
    record { place = q; text = text; from_one = omega arith; reached = subst (λ k. Reached bytes k text q) (sym before) h; stuck = record { none = none; not_over = open_yet } }

pub stuck_inside : (bytes : List ℕ) (o : Cursor) (steps : Bool) (fs : List Frame) (part : Part) → Stands bytes o (Inside steps fs part) → NoneStands (Inside steps fs part) o.text → Says bytes (faults.BadLine (o.number + 1))
stuck_inside bytes o steps fs part h none = stuck bytes o.number o.text (Inside steps fs part) h none (λ gs e. absurd cc)

pub stuck_unread : (bytes : List ℕ) (o : Cursor) → Stands bytes o Unread → NoneStands Unread o.text → Says bytes (faults.BadLine (o.number + 1))
stuck_unread bytes o h none = stuck bytes o.number o.text Unread h none (λ gs e. absurd cc)

-- there is no line
pub none_without_feed : (q : Place) (text : List ℕ) → Lacks 10 text → NoneStands q text
none_without_feed q text lacks line more turn w e s = has_feed line more (subst (Lacks 10) e lacks)

-- the next line can't stand there
pub none_at : (q : Place) (text line more : List ℕ) → text ≡ with_feed line ++ more → Lacks 10 line → ((turn : Turn) → Step q line more turn → ⊥) → NoneStands q text
none_at q text line more e w none l m turn v f s =
    let same = same_line l line m more v w (sym f ∙ e) in
    none turn (subst (λ t. Step q line t turn) same.1 (subst (λ k. Step q k m turn) same.0 s))

-- ---- what the next line isn't

pub begins_not_lacking : (word text : List ℕ) → Lacks 10 text → BeginsNot word text
begins_not_lacking word text h line more w e rest b = has_feed line more (subst (Lacks 10) e h)

pub begins_not : (word text line more : List ℕ) → Lacks 10 line → text ≡ with_feed line ++ more → ((rest : List ℕ) → line ≢ word ++ rest) → BeginsNot word text
begins_not word text line more w e none l m v f rest b =
    let same = same_line l line m more v w (sym f ∙ e) in
    none rest (sym same.0 ∙ b)

pub not_next_lacking : (line text : List ℕ) → Lacks 10 text → IsNotNext line text
not_next_lacking line text h more w e = has_feed line more (subst (Lacks 10) e h)

pub not_next : (line text other more : List ℕ) → Lacks 10 other → text ≡ with_feed other ++ more → other ≢ line → IsNotNext line text
not_next line text other more w e differs m v f = differs (same_line other line more m w v (sym e ∙ f)).0

-- a line that isn't next can't stand at a place
pub not_it : (line text other more : List ℕ) → IsNotNext line text → Lacks 10 other → text ≡ with_feed other ++ more → other ≡ line → ⊥
not_it line text other more none w e is = none more (subst (Lacks 10) is w) (e ∙ ap (λ l. with_feed l ++ more) is)

pub number_same : (word line : List ℕ) (m n : ℕ) → m < 2 ^ 64 → n < 2 ^ 64 → line ≡ word ++ decimal m → line ≡ word ++ decimal n → m ≡ n
number_same word line m n lt less e f = decimal_injective m n lt less (same_behind word (decimal m) (decimal n) (sym e ∙ f))
