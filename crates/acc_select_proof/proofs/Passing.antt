-- Arguments come to their parameters: all but the last wait in temporaries, and the last one goes to its parameter at once.
use Rattle.std.proofs.Common.{◌≡◌, ℕ, suc, ◌+◌, ◌*◌, ◌^◌, ◌<◌, ◌≤◌, true, List, [], ◌∷◌, ◌++◌, length, Some, refl, sym, ap, ◌∙◌, subst, arith}
use Rattle.std.specs.Prelude.{cond, ◌==◌}
use Rattle.std.specs.List.{AllByRecursion}
use Rattle.std.proofs.lemmas.Bool.{eq-eqb}
use Rattle.tree_code.specs.WellFormedCode.{argument_count}
use Rattle.tree_code.specs.WordTree.{ExprsCode, none, more}
use Rattle.acc_code.specs.AccTree.{ItemList, end, ◌▸◌}
use Rattle.acc_code.specs.declared.operand.AccOperand.{AccOperand}
use Rattle.acc_code.specs.declared.operand.AccOperand.TheVariants as operand
use Rattle.acc_select.specs.acc_operations.Words.{lac, sacl}
use Rattle.acc_select.specs.acc_operations.declared.high_half.HighHalf.TheVariants.{Sign}
use Rattle.acc_select.specs.Forms.{temporary, parameter_items}
use Rattle.acc_select.specs.Selected.{code_of, arguments, waiting}
use Rattle.c25_isa.specs.Step.{wrap16}
use Rattle.ir_semantics.specs.Parts.{Gives, Does, after, ◌>>=◌, give, Next, in_order}
use Rattle.ir_semantics.specs.Outside.{Frame, with_scalar, no_words}
use Rattle.ir_semantics.specs.TreeRun.{Tree, Calls, value, values}
use Rattle.ir_semantics.specs.AccRows.{low_half, low_stored}
use Rattle.ir_semantics.specs.AccRun.{Machine, given_for, store, run}
use Rattle.acc_select_proof.proofs.Straights.{run_append}
use Rattle.acc_select_proof.proofs.Rules.{Ground, AtEnd, Keeps, seq, followed}
use Rattle.acc_select_proof.proofs.Sides.{put_here, put_apart, Temps, Side, went, paid, spared, pushed}
use Rattle.acc_select_proof.proofs.Words.{has_low}
use Rattle.acc_select_proof.proofs.Loading.{word_loaded}
use Rattle.acc_select_proof.proofs.Valuing.{after_give, same_meaning, IntoKeeps}

-- words of 16 bits
abbrev pub AllWords : List ℕ → Type 0
AllWords xs = AllByRecursion (λ x. x < 65536) xs

-- words were stored to parameters, from one of this number on
abbrev pub Given : Frame → ℕ → List ℕ → Type 0
Given g i [] = Unit {0}
Given g i (x ∷ xs) = (g i ≡ Some x) × Given g (suc i) xs

pub given_kept : (g h : Frame) (i : ℕ) (xs : List ℕ) → ((k : ℕ) → i ≤ k → h k ≡ g k) → Given g i xs → Given h i xs
given_kept g h i [] same l = tt
given_kept g h i (x ∷ xs) same l = (same i (omega arith) ∙ l.0, given_kept g h (suc i) xs (λ k le. same k (omega arith)) l.1)

pub given_both : (g : Frame) (i : ℕ) (xs ys : List ℕ) → Given g i xs → Given g (i + length xs) ys → Given g i (xs ++ ys)
given_both g i [] ys a b = let z : i + 0 ≡ i = omega arith in subst (λ k. Given g k ys) z b
given_both g i (x ∷ xs) ys a b = let z : i + suc (length xs) ≡ suc i + length xs = omega arith in (a.0, given_both g (suc i) xs ys a.1 (subst (λ k. Given g k ys) z b))

pub words_left : (xs ys : List ℕ) → AllWords (xs ++ ys) → AllWords xs
words_left [] ys h = tt
words_left (x ∷ xs) ys h = (h.0, words_left xs ys h.1)

-- a word that is stored for a function
pub given_put : (f : ℕ) (v : Machine) (g : Frame) (k : ℕ) → given_for f (record v { given_to = f; given = g }) k ≡ g k
given_put f v g k = ap (λ b. cond b g no_words k) (eq-eqb f f refl)

given_for_both : (f : ℕ) (v u : Machine) → u.given_to ≡ v.given_to → u.given ≡ v.given → given_for f u ≡ given_for f v
given_for_both f v u a b = ap (λ k. cond (k == f) u.given no_words) a ∙ ap (λ g. cond (v.given_to == f) g no_words) b

-- words that wait, the last one on top of the temporaries
abbrev pub stacked : List ℕ → List ℕ → List ℕ
stacked [] ts = ts
stacked (x ∷ xs) ts = stacked xs (x ∷ ts)

module _ (n : Ground) (base : ℕ) where
  peeled : (xs ts : List ℕ) (f : Frame) → Temps base (stacked xs ts) f → Temps base ts f
  peeled [] ts f h = h
  peeled (x ∷ xs) ts f h = (peeled xs (x ∷ ts) f h).1

  pub uncovered : (xs ts : List ℕ) (s : ℕ) (w : Tree) (v : Machine) → Side base (stacked xs ts) s w v → Side base ts s w v
  uncovered xs ts s w v h = record { frame = h.frame; scalars = h.scalars; temps = peeled xs ts v.frame h.temps; outside = h.outside; words = h.words; sxm = h.sxm; work = h.work }

  -- an argument waits in a temporary
  pub record Waits (ts : List ℕ) (s x : ℕ) (w : Tree) (v : Machine) : Type 0 where
    pub side : Side base (x ∷ ts) s w v
    pub word : x < 65536

  pub into_temporary : (f : Does Tree ℕ) (c : ℕ → AccOperand → ItemList) → IntoKeeps n base f c → (ts : List ℕ) (s : ℕ) → Keeps n (Side base ts (5 + s)) f (c (base + length ts) (temporary (base + length ts))) (AtEnd (Waits ts s))
  into_temporary f c k ts s =
      same_meaning n base (λ w. after_give (f w)) (k.by (temporary (base + length ts)) ts s give (AtEnd (Waits ts s)) (λ port. refl) (λ x w v lt h. record { side = pushed base ts s x w v h; word = lt }))

  -- the last one goes to its parameter
  pub record IsGiven (f i : ℕ) (ts : List ℕ) (s x : ℕ) (w : Tree) (v : Machine) : Type 0 where
    pub side : Side base ts s w v
    pub given : given_for f v i ≡ Some x
    pub word : x < 65536

  pub into_parameter : (e : Does Tree ℕ) (c : ℕ → AccOperand → ItemList) → IntoKeeps n base e c → (f i : ℕ) (ts : List ℕ) (s : ℕ) → Keeps n (Side base ts (2 + s)) e (c (base + length ts) (operand.Param f i)) (AtEnd (IsGiven f i ts s))
  into_parameter e c k f i ts s =
      same_meaning n base (λ w. after_give (e w)) (k.by (operand.Param f i) ts s give (AtEnd (IsGiven f i ts s)) (λ port. refl) (λ x w v lt h. record {
        side = went base ts s s 0 w v _ h refl refl h.sxm (omega arith) (omega arith);
        given = given_put f v (with_scalar i x (given_for f v)) i ∙ put_here (given_for f v) i x;
        word = lt;
      }))

  -- the arguments of a call keep their words, each where it goes
  abbrev pub AllKeep : Calls → ExprsCode → Type 1
  AllKeep calls none = Unit {1}
  AllKeep calls (more e rest) = IntoKeeps n base (value calls n.context.at e) (λ t m. (code_of e t).into m) × AllKeep calls rest

  -- behind arguments, of which the first one is of this number: words that wait, of which each costs 7 to come to its parameter, and at most one
  -- that stands in its parameter
  pub record Staged (f i : ℕ) (es : ExprsCode) (ts : List ℕ) (s : ℕ) (xs : List ℕ) (w : Tree) (v : Machine) : Type 0 where
    pub waits : List ℕ
    pub lasts : List ℕ
    pub all : xs ≡ waits ++ lasts
    pub count : length xs ≡ argument_count es
    pub many : length waits ≡ waiting es
    pub side : Side base (stacked waits ts) (7 * waiting es + s) w v
    pub given : Given (given_for f v) (i + waiting es) lasts
    pub words : AllWords xs

  pub arguments_keep : (calls : Calls) (es : ExprsCode) → AllKeep calls es → (f i : ℕ) (ts : List ℕ) (s : ℕ) → Keeps n (Side base ts s) (values calls n.context.at es) (arguments f i es (base + length ts)) (AtEnd (Staged f i es ts s))
  arguments_keep calls none k f i ts s = record { by = λ w v h. record { waits = []; lasts = []; all = refl; count = refl; many = refl; side = spared base ts s _ w v h (omega arith); given = tt; words = tt } }
  arguments_keep calls (more e none) k f i ts s = record {
    by = λ w v h.
        (followed n (λ x. give [] >>= λ xs. give (x ∷ xs)) (AtEnd (Staged f i (more e none) ts s)) (into_parameter (value calls n.context.at e) (λ t m. (code_of e t).into m) k.0 f i ts s) (λ x u m p.
        let z : i ≡ i + waiting (more e none) = omega arith in
        record { waits = []; lasts = x ∷ []; all = refl; count = refl; many = refl; side = spared base ts s _ u m p.side (omega arith); given = (subst (λ j. given_for f m j ≡ Some x) z p.given, tt); words = (p.word, tt) })).by
        _ v (spared base ts (12 + s) (2 + s) _ v (paid base ts s 12 w v h) (omega arith));
  }
  arguments_keep calls (more e (more e2 rest)) k f i ts s =
      let deeper : base + suc (length ts) ≡ suc (base + length ts) = omega arith in
      let further : (x : ℕ) → Keeps n (Side base (x ∷ ts) (7 + s)) (values calls n.context.at (more e2 rest)) (arguments f (suc i) (more e2 rest) (suc (base + length ts))) (AtEnd (Staged f (suc i) (more e2 rest) (x ∷ ts) (7 + s))) =
      λ x. subst (λ t. Keeps n (Side base (x ∷ ts) (7 + s)) (values calls n.context.at (more e2 rest)) (arguments f (suc i) (more e2 rest) t) (AtEnd (Staged f (suc i) (more e2 rest) (x ∷ ts) (7 + s)))) deeper
      (arguments_keep calls (more e2 rest) k.1 f (suc i) (x ∷ ts) (7 + s)) in
      record {
        by = λ w v h.
            (seq n (into_temporary (value calls n.context.at e) (λ t m. (code_of e t).into m) k.0 ts (7 + s)) (λ x. record {
              by = λ u m p.
                  (followed n (λ xs. give (x ∷ xs)) (AtEnd (Staged f i (more e (more e2 rest)) ts s)) (further x) (λ xs u2 m2 p2.
                  let z : suc i + waiting (more e2 rest) ≡ i + waiting (more e (more e2 rest)) = omega arith in
                  let one : suc (waiting (more e2 rest)) ≡ waiting (more e (more e2 rest)) = omega arith in
                  record {
                    waits = x ∷ p2.waits;
                    lasts = p2.lasts;
                    all = ap (λ l. x ∷ l) p2.all;
                    count = ap suc p2.count;
                    many = ap suc p2.many ∙ one;
                    side = spared base (stacked p2.waits (x ∷ ts)) (7 * waiting (more e2 rest) + (7 + s)) _ u2 m2 p2.side (omega arith);
                    given = subst (λ j. Given (given_for f m2) j p2.lasts) z p2.given;
                    words = (p.word, p2.words);
                  })).by u m p.side;
            })).by _ v (spared base ts (12 + s) (5 + (7 + s)) _ v (paid base ts s 12 w v h) (omega arith));
      }

  -- words that waited go to their parameters
  pub record Unloaded (f i k : ℕ) (xs : List ℕ) (items : ItemList) (v : Machine) : Type 0 where
    pub to : Machine
    pub runs : run n.context items v ≡ Gives Next to
    pub frame : to.frame ≡ v.frame
    pub outside : to.outside ≡ v.outside
    pub sxm : to.registers.sxm ≡ Some true
    pub work : to.work ≤ v.work + k
    pub gives : Given (given_for f to) i xs
    pub below : (j : ℕ) → j < i → given_for f to j ≡ given_for f v j
    pub above : (j : ℕ) → i + length xs ≤ j → given_for f to j ≡ given_for f v j

  -- the first of them, and what follows
  moved : (f i t x : ℕ) (rest : ItemList) (xs : List ℕ) (k : ℕ) (v : Machine) → v.frame t ≡ Some x → v.registers.sxm ≡ Some true → x < 65536 → ((u : Machine) → u.frame ≡ v.frame → u.registers.sxm ≡ Some true → Unloaded f (suc i) k xs rest u)
      → Unloaded f i (7 + k) (x ∷ xs) (lac (temporary t) ▸ sacl (operand.Param f i) ▸ rest) v
  moved f i t x rest xs k v there sxm lt next =
      let first = word_loaded n.context (temporary t) x v there sxm lt in
      let u : Machine = record (first.to) { given_to = f; given = with_scalar i x (given_for f first.to); work = first.to.work + 2 } in
      let r = next u first.frame first.sxm in
      let word : wrap16 (x * 2 ^ 0) ≡ x = omega (arith, lt) in
      let stored : low_stored (low_half first.to.registers.acc) 0 ≡ Some x = ap (λ y. low_stored y 0) (has_low Sign x first.to.registers.acc lt first.then_so.acc) ∙ ap Some word in
      let before : given_for f first.to ≡ given_for f v = given_for_both f v first.to first.given_to first.given in
      let apart : (j : ℕ) → (j ≡ i → ⊥) → given_for f u j ≡ given_for f v j = λ j ne. given_put f first.to (with_scalar i x (given_for f first.to)) j ∙ put_apart (given_for f first.to) i x j ne ∙ ap (λ g. g j) before in
      record {
        to = r.to;
        runs = run_append n.context (lac (temporary t) ▸ end) (sacl (operand.Param f i) ▸ rest) v
            ∙ ap (λ y. after y (λ flow. in_order flow (run n.context (sacl (operand.Param f i) ▸ rest)))) first.runs
            ∙ ap (λ y. after (store n.context.at (operand.Param f i) y (record (first.to) { work = first.to.work + 2 })) (λ flow. in_order flow (run n.context rest))) stored
            ∙ r.runs;
        frame = r.frame ∙ first.frame;
        outside = r.outside ∙ first.outside;
        sxm = r.sxm;
        work = let a = r.work in let b = first.work in omega (arith, a, b);
        gives = (r.below i (omega arith) ∙ given_put f first.to (with_scalar i x (given_for f first.to)) i ∙ put_here (given_for f first.to) i x, r.gives);
        below = λ j le. r.below j (omega (arith, le)) ∙ apart j (λ e. omega (arith, e, le));
        above = λ j le. r.above j (omega (arith, le)) ∙ apart j (λ e. omega (arith, e, le));
      }

  temps_now : (xs ts : List ℕ) (f g : Frame) → g ≡ f → Temps base (stacked xs ts) f → Temps base (stacked xs ts) g
  temps_now xs ts f g e h = subst (Temps base (stacked xs ts)) (sym e) h

  pub unloaded : (f : ℕ) (xs ts : List ℕ) (i : ℕ) (v : Machine) → Temps base (stacked xs ts) v.frame → AllWords xs → v.registers.sxm ≡ Some true → Unloaded f i (7 * length xs) xs (parameter_items f i (base + length ts) (length xs)) v
  unloaded f [] ts i v h ws s = record { to = v; runs = refl; frame = refl; outside = refl; sxm = s; work = omega arith; gives = tt; below = λ j le. refl; above = λ j le. refl }
  unloaded f (x ∷ xs) ts i v h ws s =
      let z : 7 + 7 * length xs ≡ 7 * suc (length xs) = omega arith in
      let deeper : base + suc (length ts) ≡ suc (base + length ts) = omega arith in
      subst (λ k. Unloaded f i k (x ∷ xs) (parameter_items f i (base + length ts) (length (x ∷ xs))) v) z
      (moved f i (base + length ts) x (parameter_items f (suc i) (suc (base + length ts)) (length xs)) xs (7 * length xs) v (peeled xs (x ∷ ts) v.frame h).0 s ws.0
      (λ u same sx. subst (λ t. Unloaded f (suc i) (7 * length xs) xs (parameter_items f (suc i) t (length xs)) u) deeper (unloaded f xs (x ∷ ts) (suc i) u (temps_now xs (x ∷ ts) v.frame u.frame same h) ws.1 sx)))
