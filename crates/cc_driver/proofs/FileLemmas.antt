-- Of the files that are told, one at most is the first that is missing.
use Rattle.std.proofs.Common.{◌≡◌, ◌∙◌, ◌<◌, ◌≤◌, ◌++◌, ℕ, List, [], ◌∷◌, length, Option, Some, None, sym, ap, subst, arith, IsTrue}
use Rattle.cc_files.specs.World.{Shelves}
use Rattle.cc_files.specs.Fetches.{Wanted, IsFetched, AreFetched}
use Rattle.cc_driver.specs.Build.{FileHas}
use Rattle.cc_driver.specs.Commands.{FilesHave, ThreeFilesHave}
use Rattle.cc_driver.specs.Answers.{IsUnfetchable, NoFile, LongFile}

-- of one file one text is told
told_same : (o : Option (List ℕ)) (a b : List ℕ) → o ≡ Some a → o ≡ Some b → a ≡ b
told_same o a b e f = let k : Some a ≡ Some b = sym e ∙ f in cc

none_told : (o : Option (List ℕ)) (a : List ℕ) → o ≡ None → o ≡ Some a → ⊥
none_told o a n e = let k : None ≡ Some a = sym n ∙ e in cc

not_long : (limit : ℕ) (a b : List ℕ) → a ≡ b → limit < length a → length b ≤ limit → ⊥
not_long limit a b e long fits = omega (arith, long, fits, ap length e)

head_same : (v w : Wanted) (vs ws : List Wanted) → v ∷ vs ≡ w ∷ ws → v ≡ w
head_same v w vs ws e = cc

tail_same : (v w : Wanted) (vs ws : List Wanted) → v ∷ vs ≡ w ∷ ws → vs ≡ ws
tail_same v w vs ws e = cc

module _ (shelf : Shelves) (tells : IsTrue shelf.tells) where
  missing_one : (w : Wanted) (a b : ℕ) → IsUnfetchable shelf.before.files w a → IsUnfetchable shelf.before.files w b → a ≡ b
  missing_one w a b (NoFile n e) (NoFile m f) = e ∙ sym f
  missing_one w a b (NoFile n e) (LongFile bytes told long f) = absurd (none_told (shelf.before.files w.name) bytes n told)
  missing_one w a b (LongFile bytes told long e) (NoFile n f) = absurd (none_told (shelf.before.files w.name) bytes n told)
  missing_one w a b (LongFile bytes told long e) (LongFile other also too f) = e ∙ sym f

  missing_not_told : (w : Wanted) (a : ℕ) (bytes : List ℕ) → IsUnfetchable shelf.before.files w a → IsFetched shelf w bytes → ⊥
  missing_not_told w a bytes (NoFile n e) f = none_told (shelf.before.files w.name) bytes n (f.told tells)
  missing_not_told w a bytes (LongFile other told long e) f = not_long w.limit other bytes (told_same (shelf.before.files w.name) other bytes told (f.told tells)) long f.fits

  -- where all are told, none is missing
  pub all_told : (before : List Wanted) (w : Wanted) (behind : List Wanted) (a : ℕ) → AreFetched shelf (before ++ w ∷ behind) → IsUnfetchable shelf.before.files w a → ⊥
  all_told [] w behind a told m = missing_not_told w a told.0.0 m told.0.1
  all_told (v ∷ vs) w behind a told m = all_told vs w behind a told.1 m

  -- the first that is missing has one status
  pub first_one : (before : List Wanted) (w : Wanted) (behind front : List Wanted) (v : Wanted) (back : List Wanted) (a b : ℕ) → before ++ w ∷ behind ≡ front ++ v ∷ back
      → AreFetched shelf before → AreFetched shelf front → IsUnfetchable shelf.before.files w a → IsUnfetchable shelf.before.files v b → a ≡ b
  first_one [] w behind [] v back a b e told also m n = missing_one v a b (subst (λ x. IsUnfetchable shelf.before.files x a) (head_same w v behind back e) m) n
  first_one [] w behind (x ∷ xs) v back a b e told also m n =
      absurd (missing_not_told x a also.0.0 (subst (λ y. IsUnfetchable shelf.before.files y a) (head_same w x behind _ e) m) also.0.1)
  first_one (x ∷ xs) w behind [] v back a b e told also m n =
      absurd (missing_not_told x b told.0.0 (subst (λ y. IsUnfetchable shelf.before.files y b) (sym (head_same x v _ back e)) n) told.0.1)
  first_one (x ∷ xs) w behind (y ∷ ys) v back a b e told also m n = first_one xs w behind ys v back a b (tail_same x y _ _ e) told.1 also.1 m n

  -- a file is told once
  pub one_file : (w : Wanted) (P Q : List ℕ → Type 0) → FileHas shelf w P → FileHas shelf w Q → (bytes : List ℕ) × P bytes × Q bytes
  one_file w P Q h k = (k.bytes, subst P (told_same (shelf.before.files w.name) h.bytes k.bytes (h.fetched.told tells) (k.fetched.told tells)) h.holds, k.holds)

  -- both files are told once
  pub two_files : (w v : Wanted) (P Q : List ℕ → List ℕ → Type 0) → FilesHave shelf w v P → FilesHave shelf w v Q → (s : List ℕ) × ((p : List ℕ) × P s p × Q s p)
  two_files w v P Q h k =
      let one = told_same (shelf.before.files w.name) h.bytes k.bytes (h.fetched.told tells) (k.fetched.told tells) in
      let two = told_same (shelf.before.files v.name) h.more k.more (h.also.told tells) (k.also.told tells) in
      (k.bytes, (k.more, subst (λ s. P s k.more) one (subst (λ p. P h.bytes p) two h.holds), k.holds))

  -- and so are three
  pub three_files : (w v u : Wanted) (P Q : List ℕ → List ℕ → List ℕ → Type 0) → ThreeFilesHave shelf w v u P → ThreeFilesHave shelf w v u Q
      → (i : List ℕ) × ((p : List ℕ) × ((s : List ℕ) × P i p s × Q i p s))
  three_files w v u P Q h k =
      let one = told_same (shelf.before.files w.name) h.bytes k.bytes (h.fetched.told tells) (k.fetched.told tells) in
      let two = told_same (shelf.before.files v.name) h.more k.more (h.also.told tells) (k.also.told tells) in
      let three = told_same (shelf.before.files u.name) h.last k.last (h.too.told tells) (k.too.told tells) in
      (k.bytes, (k.more, (k.last, subst (λ i. P i k.more k.last) one (subst (λ p. P h.bytes p k.last) two (subst (λ s. P h.bytes h.more s) three h.holds)), k.holds)))
