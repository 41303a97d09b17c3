-- What commands show, part behind part.
use Rattle.std.proofs.Common.{◌≡◌, ℕ, zero, suc, ◌+◌, ◌-◌, ◌<◌, ◌%◌, Bool, false, List, [], ◌∷◌, ◌++◌, length, get_or, refl, sym, ap, subst, ◌∙◌, arith, append_assoc, append-nil}
use Rattle.std.specs.Prelude.{replicate}
use Rattle.std.specs.List.{concat}
use Rattle.text_base.specs.Lines.{with_feed}
use Rattle.c25_isa.specs.State.{State, Memory}
use Rattle.c25_debug.specs.declared.command.Command.{Command}
use Rattle.c25_debug.specs.declared.debugger.Debugger.{Debugger}
use Rattle.c25_debug.specs.Session.{Kept, Shows}
use Rattle.c25_debug.specs.Standing.{kept_of, Did}
use Rattle.c25_debug.specs.Looks.{memory_line, memory_text}

concat_push : (parts : List (List ℕ)) (part : List ℕ) → concat (parts ++ part ∷ []) ≡ concat parts ++ part
concat_push [] part = append-nil part
concat_push (first ∷ parts) part = ap (λ t. first ++ t) (concat_push parts part) ∙ sym (append_assoc first (concat parts) part)

-- one part more
pub one_part : (old text more part : List ℕ) (parts : List (List ℕ)) → text ≡ old ++ concat parts → more ≡ text ++ part → more ≡ old ++ concat (parts ++ part ∷ [])
one_part old text more part parts so_far pushed = pushed ∙ ap (λ t. t ++ part) so_far ∙ append_assoc old (concat parts) part ∙ ap (λ t. old ++ t) (sym (concat_push parts part))

-- and the line feed behind all
pub fed : (old text more line : List ℕ) → text ≡ old ++ line → more ≡ text ++ 10 ∷ [] → more ≡ old ++ with_feed line
fed old text more line so_far pushed = pushed ∙ ap (λ t. t ++ 10 ∷ []) so_far ∙ append_assoc old line (10 ∷ [])

-- no address of a table of so many
pub none_set : (count : ℕ) (table : List Bool) → table ≡ replicate count false → (a : ℕ) → get_or table a false ≡ false
none_set count table is a = ap (λ l. get_or l a false) is ∙ unset count a
  where
    unset : (n k : ℕ) → get_or (replicate n false) k false ≡ false
    unset zero k = refl
    unset (suc n) zero = refl
    unset (suc n) (suc k) = unset n k

-- eight words
pub eight_words : (words : List ℕ) → length words ≡ 8 → words ≡ get_or words 0 0 ∷ get_or words 1 0 ∷ get_or words 2 0 ∷ get_or words 3 0 ∷ get_or words 4 0 ∷ get_or words 5 0 ∷ get_or words 6 0 ∷ get_or words 7 0 ∷ []
eight_words (a ∷ b ∷ c ∷ d ∷ e ∷ f ∷ g ∷ h ∷ []) is = refl
eight_words words is = absurd (omega arith)

-- one word of data memory more
pub memory_more : (ram : Memory) (at next count i : ℕ) (text more whole : List ℕ) → i < count → next ≡ (at + 1) % 65536 → more ≡ text ++ with_feed (memory_line ram at) → text ++ memory_text ram at (count - i) ≡ whole
    → more ++ memory_text ram next (count - (i + 1)) ≡ whole
memory_more ram at next count i text more whole lt next_is pushed so_far =
    let left : count - i ≡ suc (count - (i + 1)) = omega arith in
    let rest = memory_text ram ((at + 1) % 65536) (count - (i + 1)) in
    ap (λ a. more ++ memory_text ram a (count - (i + 1))) next_is
    ∙ ap (λ t. t ++ rest) pushed
    ∙ append_assoc text (with_feed (memory_line ram at)) rest
    ∙ ap (λ n. text ++ memory_text ram at n) (sym left)
    ∙ so_far

-- ---- commands one behind another

-- the text of one command more
pub follow_more : (s : State) (start : Kept) (script rest : List Command) (command : Command) (before now : Debugger) (old new : List ℕ) → Did command s before now old new
    → ((back : List ℕ) → Shows s (command ∷ rest) (kept_of before) back → Shows s script start (old ++ back)) → (back : List ℕ) → Shows s rest (kept_of now) back → Shows s script start (new ++ back)
follow_more s start script rest command before now old new d so_far back h =
    subst (Shows s script start) (sym (append_assoc old d.shown back) ∙ ap (λ t. t ++ back) (sym d.text))
    (so_far (d.shown ++ back) (record { front = d.shown; next = kept_of now; back = back; does = d.does; others = h; joined = refl }))
