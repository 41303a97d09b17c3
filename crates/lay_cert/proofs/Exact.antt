-- Bytes say one thing: one certificate, or one fault.
use Rattle.std.proofs.Common.{◌≡◌, ◌≢◌, ℕ, ◌-◌, List, [], ◌∷◌, ◌++◌, length, refl, sym, ap, subst, ◌∙◌, inl, inr, arith, append_assoc}
use Rattle.std.specs.Prelude.{◌⊎◌}
use Rattle.text_base.specs.Lines.{with_feed, lines_text, Lacks}
use Rattle.lay_cert.specs.declared.fault.CertFault.{CertFault}
use Rattle.lay_cert.specs.declared.fault.CertFault.TheVariants as faults
use Rattle.lay_cert.specs.Frames.{Frame}
use Rattle.lay_cert.specs.CertReading.{Place, Unread, Finished, Goes, Ends, Step, Runs, Reached, Reads, IsFirstFaulty, EndsSo, Says}
use Rattle.lay_cert.proofs.Numbers.{same_line}
use Rattle.lay_cert.proofs.Turns.{turn_same}

-- no line leads on from a place
abbrev IsLast : Place → List ℕ → Type 0
IsLast q text = (line more : List ℕ) (m : Place) → Lacks 10 line → text ≡ with_feed line ++ more → Step q line more (Goes m) → ⊥

record AreSame (f g : List (List ℕ)) (x y : List ℕ) (q r : Place) : Type 0 where
  counts : length f ≡ length g
  texts : x ≡ y
  places : q ≡ r

runs_same : (p : Place) (f g : List (List ℕ)) (x y : List ℕ) (q r : Place) → lines_text f ++ x ≡ lines_text g ++ y → Runs p f x q → Runs p g y r → IsLast q x → IsLast r y → AreSame f g x y q r
runs_same p [] [] x y q r e h k a b = record { counts = refl; texts = e; places = h ∙ sym k }
runs_same p [] (l ∷ ls) x y q r e h k a b =
    absurd (a l (lines_text ls ++ y) k.0 k.1 (e ∙ append_assoc (with_feed l) (lines_text ls) y) (subst (λ z. Step z l (lines_text ls ++ y) (Goes k.0)) (sym h) k.2))
runs_same p (l ∷ ls) [] x y q r e h k a b =
    absurd (b l (lines_text ls ++ x) h.0 h.1 (sym e ∙ append_assoc (with_feed l) (lines_text ls) x) (subst (λ z. Step z l (lines_text ls ++ x) (Goes h.0)) (sym k) h.2))
runs_same p (l ∷ ls) (o ∷ os) x y q r e h k a b =
    let cut : with_feed l ++ (lines_text ls ++ x) ≡ with_feed o ++ (lines_text os ++ y) = sym (append_assoc (with_feed l) (lines_text ls) x) ∙ e ∙ append_assoc (with_feed o) (lines_text os) y in
    let s = same_line l o (lines_text ls ++ x) (lines_text os ++ y) h.1 k.1 cut in
    let step = subst (λ t. Step p o t (Goes h.0)) s.1 (subst (λ w. Step p w (lines_text ls ++ x) (Goes h.0)) s.0 h.2) in
    let turn = turn_same p o (lines_text os ++ y) (Goes h.0) (Goes k.0) step k.2 in
    let place : h.0 ≡ k.0 = cc in
    let more = runs_same k.0 ls os x y q r s.1 (subst (λ z. Runs z ls x q) place h.3) k.3 a b in
    record { counts = omega (arith, more.counts); texts = more.texts; places = more.places }

-- where the reading of bytes is over
record IsOver (bytes : List ℕ) (number : ℕ) (text : List ℕ) (q : Place) : Type 0 where
  reached : Reached bytes number text q
  last : IsLast q text

record OneEnd (m n : ℕ) (x y : List ℕ) (q r : Place) : Type 0 where
  numbers : m ≡ n
  texts : x ≡ y
  places : q ≡ r

one_end : (bytes : List ℕ) (m n : ℕ) (x y : List ℕ) (q r : Place) → IsOver bytes m x q → IsOver bytes n y r → OneEnd m n x y q r
one_end bytes m n x y q r g h =
    let s = runs_same Unread g.reached.front h.reached.front x y q r (sym g.reached.cut ∙ h.reached.cut) g.reached.runs h.reached.runs g.last h.last in
    record { numbers = g.reached.counted ∙ s.counts ∙ sym h.reached.counted; texts = s.texts; places = s.places }

over_read : (bytes : List ℕ) (fs : List Frame) → (r : Reads bytes fs) → IsOver bytes r.number [] (Finished fs)
over_read bytes fs r = record { reached = r.reached; last = λ line more m w e s. s }

over_faulty : (bytes : List ℕ) (line : ℕ) → (f : IsFirstFaulty bytes line) → IsOver bytes (line - 1) f.text f.place
over_faulty bytes line f = record { reached = f.reached; last = λ l more m w e s. f.stuck.none l more (Goes m) w e s }

over_ended : (bytes : List ℕ) (fault : CertFault) → (f : EndsSo bytes fault) → IsOver bytes f.number (with_feed f.line ++ f.more) f.place
over_ended bytes fault f = record { reached = f.reached; last = λ l more m w e s. ends f l more m w e s }
  where
    ends : (g : EndsSo bytes fault) (l more : List ℕ) (m : Place) → Lacks 10 l → with_feed g.line ++ g.more ≡ with_feed l ++ more → Step g.place l more (Goes m) → ⊥
    ends g l more m w e s =
        let same = same_line g.line l g.more more g.whole w e in
        let step = subst (λ t. Step g.place l t (Ends fault)) same.1 (subst (λ k. Step g.place k g.more (Ends fault)) same.0 g.step) in
        let turn = turn_same g.place l more (Goes m) (Ends fault) s step in
        absurd cc

pub reads_same : (bytes : List ℕ) (fs gs : List Frame) → Reads bytes fs → Reads bytes gs → fs ≡ gs
reads_same bytes fs gs r t =
    let e = (one_end bytes r.number t.number [] [] (Finished fs) (Finished gs) (over_read bytes fs r) (over_read bytes gs t)).places in
    cc

faulty_not_read : (bytes : List ℕ) (fs : List Frame) (line : ℕ) → Reads bytes fs → IsFirstFaulty bytes line → ⊥
faulty_not_read bytes fs line r f =
    let e = one_end bytes (line - 1) r.number f.text [] f.place (Finished fs) (over_faulty bytes line f) (over_read bytes fs r) in
    f.stuck.not_over fs e.places e.texts

ended_not_read : (bytes : List ℕ) (fs : List Frame) (fault : CertFault) → Reads bytes fs → EndsSo bytes fault → ⊥
ended_not_read bytes fs fault r f =
    let e = one_end bytes f.number r.number (with_feed f.line ++ f.more) [] f.place (Finished fs) (over_ended bytes fault f) (over_read bytes fs r) in
    subst (λ z. Step z f.line f.more (Ends fault)) e.places f.step

-- bytes that are read have no fault
pub says_not_read : (bytes : List ℕ) (fs : List Frame) → Reads bytes fs → (fault : CertFault) → Says bytes fault → fault ≡ faults.NoMemory
says_not_read bytes fs r (faults.BadLine line) f = absurd (faulty_not_read bytes fs line r f)
says_not_read bytes fs r (faults.Short frame) f = absurd (ended_not_read bytes fs (faults.Short frame) r f)
says_not_read bytes fs r (faults.Version found) f = absurd (ended_not_read bytes fs (faults.Version found) r f)
says_not_read bytes fs r faults.NoMemory u = refl

line_same : (bytes : List ℕ) (m n : ℕ) → IsFirstFaulty bytes m → IsFirstFaulty bytes n → m ≡ n
line_same bytes m n f g =
    let e = (one_end bytes (m - 1) (n - 1) f.text g.text f.place g.place (over_faulty bytes m f) (over_faulty bytes n g)).numbers in
    omega (arith, f.from_one, g.from_one, e)

ended_not_faulty : (bytes : List ℕ) (line : ℕ) (fault : CertFault) → IsFirstFaulty bytes line → EndsSo bytes fault → ⊥
ended_not_faulty bytes line fault f g =
    let e = one_end bytes (line - 1) g.number f.text (with_feed g.line ++ g.more) f.place g.place (over_faulty bytes line f) (over_ended bytes fault g) in
    f.stuck.none g.line g.more (Ends fault) g.whole e.texts (subst (λ z. Step z g.line g.more (Ends fault)) (sym e.places) g.step)

ended_same : (bytes : List ℕ) (one two : CertFault) → EndsSo bytes one → EndsSo bytes two → one ≡ two
ended_same bytes one two f g =
    let e = one_end bytes f.number g.number (with_feed f.line ++ f.more) (with_feed g.line ++ g.more) f.place g.place (over_ended bytes one f) (over_ended bytes two g) in
    let same = same_line f.line g.line f.more g.more f.whole g.whole e.texts in
    let step = subst (λ t. Step g.place g.line t (Ends one)) same.1 (subst (λ k. Step g.place k f.more (Ends one)) same.0 (subst (λ z. Step z f.line f.more (Ends one)) e.places f.step)) in
    let turn = turn_same g.place g.line g.more (Ends one) (Ends two) step g.step in
    cc

-- and one fault at most
pub says_same : (bytes : List ℕ) (fault other : CertFault) → fault ≢ faults.NoMemory → Says bytes fault → Says bytes other → (other ≡ fault) ⊎ (other ≡ faults.NoMemory)
says_same bytes faults.NoMemory other some f g = absurd (some refl)
says_same bytes fault faults.NoMemory some f g = inr refl
says_same bytes (faults.BadLine m) (faults.BadLine n) some f g = inl (ap (λ l. faults.BadLine l) (line_same bytes n m g f))
says_same bytes (faults.BadLine m) (faults.Short n) some f g = absurd (ended_not_faulty bytes m (faults.Short n) f g)
says_same bytes (faults.BadLine m) (faults.Version n) some f g = absurd (ended_not_faulty bytes m (faults.Version n) f g)
says_same bytes (faults.Short m) (faults.BadLine n) some f g = absurd (ended_not_faulty bytes n (faults.Short m) g f)
says_same bytes (faults.Short m) (faults.Short n) some f g = inl (ended_same bytes (faults.Short n) (faults.Short m) g f)
says_same bytes (faults.Short m) (faults.Version n) some f g = inl (ended_same bytes (faults.Version n) (faults.Short m) g f)
says_same bytes (faults.Version m) (faults.BadLine n) some f g = absurd (ended_not_faulty bytes n (faults.Version m) g f)
says_same bytes (faults.Version m) (faults.Short n) some f g = inl (ended_same bytes (faults.Short n) (faults.Version m) g f)
says_same bytes (faults.Version m) (faults.Version n) some f g = inl (ended_same bytes (faults.Version n) (faults.Version m) g f)
