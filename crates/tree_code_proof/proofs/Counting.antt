-- What parts of a run cost together they cost one after another.
use Rattle.std.proofs.Common.{◌≡◌, ℕ, ◌+◌, Bool, true, false, refl, ap, arith}
use Rattle.std.specs.Prelude.{if◌then◌else◌}
use mathlib.Core.Path.{fun_ext}
use Rattle.word_base.specs.declared.outcome.Ending.{Ending}
use Rattle.word_base.specs.Ports.{Outputs}
use Rattle.c_tree.specs.Store as plain
use Rattle.c_tree.specs.Eval as plain_eval
use Rattle.ir_semantics.specs.SourceWork.{Work, no_work, following, in_turn}
use Rattle.tree_code_proof.specs.Counted.{Res, Finished, Does, after, ◌>>=◌, ticked, at_work, without_work, counted, free}
use Rattle.tree_code_proof.specs.Evaluated.{choose}

module _ {A : Type 0} (f : plain.Does A) where
  -- the weight of a node, and what follows it
  pub counted_node : (k : ℕ) (work : Work) → counted f (λ w. k + work w) ≡ ticked k (counted f work)
  counted_node k work = fun_ext (λ w. ap (λ m. at_work m (f (without_work w))) (omega arith))

  pub counted_nothing : counted f no_work ≡ free f
  counted_nothing = fun_ext (λ w. ap (λ m. at_work m (f (without_work w))) (omega arith))

abbrev finished : (A : Type 0) → ℕ → Ending → Outputs → Res A
finished A k ending outs = Finished ending outs k

module _ {A B : Type 0} (g : A → plain.Does B) (rest : A → Work) where
  followed : (x : plain.Res A) (k m : ℕ) → at_work (k + (m + following x rest)) (plain.after x g) ≡ after (at_work (k + m) x) (λ a. counted (g a) (rest a))
  followed (plain.Gives a w) k m = ap (λ n. at_work n (g a w)) (omega arith)
  followed (plain.Finished ending outs) k m = ap (λ n. finished B n ending outs) (omega arith)
  followed (plain.TooMany outs) k m = refl
  followed (plain.Fails kind at outs) k m = refl

  followed_free : (x : plain.Res A) (k : ℕ) → at_work (k + following x rest) (plain.after x g) ≡ after (at_work k x) (λ a. counted (g a) (rest a))
  followed_free (plain.Gives a w) k = refl
  followed_free (plain.Finished ending outs) k = ap (λ n. finished B n ending outs) (omega arith)
  followed_free (plain.TooMany outs) k = refl
  followed_free (plain.Fails kind at outs) k = refl

-- one part after another, of which both cost, or the second one alone
pub bind_counted : {A B : Type 0} (f : plain.Does A) (g : A → plain.Does B) (work : Work) (rest : A → Work) → counted (plain.◌>>=◌ f g) (in_turn f work rest) ≡ (counted f work >>= λ a. counted (g a) (rest a))
bind_counted f g work rest = fun_ext (λ w. followed g rest (f (without_work w)) w.work (work (without_work w)))

pub bind_later : {A B : Type 0} (f : plain.Does A) (g : A → plain.Does B) (rest : A → Work) → counted (plain.◌>>=◌ f g) (λ w. following (f w) rest) ≡ (free f >>= λ a. counted (g a) (rest a))
bind_later f g rest = fun_ext (λ w. followed_free g rest (f (without_work w)) w.work)

module _ {A B : Type 0} (g : A → plain.Does B) where
  after_free : (x : plain.Res A) (k : ℕ) → at_work k (plain.after x g) ≡ after (at_work k x) (λ a. free (g a))
  after_free (plain.Gives a w) k = refl
  after_free (plain.Finished ending outs) k = refl
  after_free (plain.TooMany outs) k = refl
  after_free (plain.Fails kind at outs) k = refl

  pub bind_first : (f : plain.Does A) (work : Work) → counted (plain.◌>>=◌ f g) work ≡ (counted f work >>= λ a. free (g a))
  bind_first f work = fun_ext (λ w. after_free (f (without_work w)) (w.work + work (without_work w)))

  pub bind_free : (f : plain.Does A) → free (plain.◌>>=◌ f g) ≡ (free f >>= λ a. free (g a))
  bind_free f = fun_ext (λ w. after_free (f (without_work w)) w.work)

-- a part that costs, one that doesn't, and what they lead to
module _ {A B C : Type 0} (f : plain.Does A) (t : A → plain.Does B) (g : B → plain.Does C) (work : Work) (rest : B → Work) where
  tested : (x : plain.Res A) (k m : ℕ) → at_work (k + (m + following (plain.after x t) rest)) (plain.after x (λ a. plain.◌>>=◌ (t a) g)) ≡ after (at_work (k + m) x) (λ a. free (t a) >>= λ b. counted (g b) (rest b))
  tested (plain.Gives a w) k m = followed g rest (t a w) k m
  tested (plain.Finished ending outs) k m = ap (λ n. finished C n ending outs) (omega arith)
  tested (plain.TooMany outs) k m = refl
  tested (plain.Fails kind at outs) k m = refl

  pub bind_tested : counted (plain.◌>>=◌ f (λ a. plain.◌>>=◌ (t a) g)) (in_turn (plain.◌>>=◌ f t) work rest) ≡ (counted f work >>= λ a. free (t a) >>= λ b. counted (g b) (rest b))
  bind_tested = fun_ext (λ w. tested (f (without_work w)) w.work (work (without_work w)))

module _ {A B C : Type 0} (f : plain.Does A) (t : A → plain.Does B) (g : A → B → plain.Does C) (work rest : Work) where
  read_first : (x : plain.Res A) (k m : ℕ) → at_work (k + (m + following (plain.after x t) (λ _. rest))) (plain.after x (λ a. plain.◌>>=◌ (t a) (g a))) ≡ after (at_work (k + m) x) (λ a. free (t a) >>= λ b. counted (g a b) rest)
  read_first (plain.Gives a w) k m = followed (g a) (λ _. rest) (t a w) k m
  read_first (plain.Finished ending outs) k m = ap (λ n. finished C n ending outs) (omega arith)
  read_first (plain.TooMany outs) k m = refl
  read_first (plain.Fails kind at outs) k m = refl

  pub bind_old : counted (plain.◌>>=◌ f (λ a. plain.◌>>=◌ (t a) (g a))) (in_turn (plain.◌>>=◌ f t) work (λ _. rest)) ≡ (counted f work >>= λ a. free (t a) >>= λ b. counted (g a b) rest)
  bind_old = fun_ext (λ w. read_first (f (without_work w)) w.work (work (without_work w)))

pub then_same : {A B : Type 0} (f : Does A) {g h : A → Does B} → ((a : A) → g a ≡ h a) → (f >>= g) ≡ (f >>= h)
then_same f e = ap (λ n. f >>= n) (fun_ext e)

pub first_same : {A B : Type 0} {f g : Does A} (h : A → Does B) → f ≡ g → (f >>= h) ≡ (g >>= h)
first_same h e = ap (λ f. f >>= h) e

-- one of two parts
pub chosen_counted : {A : Type 0} (t : Bool) (f g : plain.Does A) (work other : Work) → counted (plain_eval.choose t f g) (if t then work else other) ≡ choose t (counted f work) (counted g other)
chosen_counted true f g work other = refl
chosen_counted false f g work other = refl
