-- Each name that a piece of a program calls is that of one of its pieces, and of no other one.
use Rattle.std.proofs.Common.{◌≡◌, ◌≢◌, inl, inr, ℕ, zero, suc, ◌+◌, ◌<◌, ◌∙◌, Bool, true, false, ◌||◌, List, [], ◌∷◌, length, map, refl, sym, ap, ap₂, subst, arith, All}
use Rattle.std.specs.Prelude.{AllPairs, count_by, filter, slice_get, slice_index, slice_index_or, cond, if◌then◌else◌, Some}
use Rattle.std.specs.Str.{bytes_eq}
use Rattle.std.proofs.lemmas.Bool.{true≢false}
use Rattle.std.proofs.lemmas.List.Elements.{All-cons, All-nil, All-filter, All-map}
use Rattle.std.proofs.lemmas.List.Sums.{sum_by-cons}
use Rattle.std.proofs.lemmas.Slice.Eq.{bytes_eq-Decides}
use Rattle.word_base.specs.Name.{IsName, IsNameStart}
use Rattle.c25_isa.specs.declared.piece.PieceItem.{PieceItem}
use Rattle.c25_isa.specs.declared.piece.PieceItem.TheVariants.{Do, Mark, Jump, CallTo}
use Rattle.c25_isa.specs.Pieces.{Piece}
use Rattle.c25_code.specs.Naming.{names_called}
use Rattle.acc_code.specs.declared.operand.HelperName.{HelperName}
use Rattle.acc_code.specs.declared.operand.HelperName.TheVariants.{DivInt, DivUnsigned, RemInt, RemUnsigned, ShrInt, ShrUnsigned}
use Rattle.image_proof.specs.frame_emit.emit_control.Settings.{helper_name, routine_of}
use Rattle.image_proof.specs.c25_helper.Calls.{items_call, pieces_call, called_helper_pieces}
use Rattle.image_proof.specs.c25_helper.declared.routine.Routine.{Routine}
use Rattle.image_proof.specs.c25_helper.declared.routine.Routine.TheVariants as routine
use Rattle.image_proof.specs.c25_helper.Routines.{all_routines, helper_pieces, routine_name, routine_piece}
use Rattle.size_proof.specs.emit_proof.Calls.{CallsAre}
use Rattle.image_proof.specs.frame_emit.Startup.{startup_name}
use Rattle.cc_compile.proofs.LayoutLemmas.{same_some}

-- names by their bytes
pub same_name : (a b : List ℕ) → a ≡ b → bytes_eq a b ≡ true
same_name a b e = (bytes_eq-Decides a b).1 e

pub other_name : (a b : List ℕ) → a ≢ b → bytes_eq a b ≡ false
other_name a b differs = by (bytes_eq a b) ((bytes_eq-Decides a b).0)
  where
    by : (t : Bool) → (t ≡ true → a ≡ b) → t ≡ false
    by true same = absurd (differs (same refl))
    by false same = refl

-- how often a name stands among names, and how many pieces have it
names_never : (name : List ℕ) (ns : List (List ℕ)) → All (λ n. n ≢ name) ns → count_by (λ n. bytes_eq n name) ns ≡ 0
names_never name [] all = refl
names_never name (n ∷ ns) all =
    sum_by-cons (λ (m : List ℕ). cond (bytes_eq m name) 1 0) n ns
    ∙ ap₂ (λ (b : Bool) k. cond b 1 0 + k) (other_name n name (all 0 n (omega arith))) (names_never name ns (λ k d within. all (suc k) d (omega (arith, within))))

pub index_is : (ns : List (List ℕ)) (k : ℕ) (d name : List ℕ) → slice_get ns k ≡ Some name → (slice_index_or ns k d ≡ name) × (k < length ns)
index_is [] k d name is = absurd cc
index_is (n ∷ ns) zero d name is = (same_some n name is, omega arith)
index_is (n ∷ ns) (suc k) d name is = let more = index_is ns k d name is in (more.0, omega (arith, more.1))

names_once : (name : List ℕ) (ns : List (List ℕ)) (k : ℕ) → AllPairs (λ a b. a ≢ b) ns → slice_get ns k ≡ Some name → count_by (λ n. bytes_eq n name) ns ≡ 1
names_once name [] k pairs is = absurd cc
names_once name (n ∷ ns) zero pairs is =
    let here : n ≡ name = same_some n name is in
    sum_by-cons (λ (m : List ℕ). cond (bytes_eq m name) 1 0) n ns
    ∙ ap₂ (λ (b : Bool) k. cond b 1 0 + k) (same_name n name here) (names_never name ns (λ k d within e. pairs 0 (suc k) d (omega arith) (omega (arith, within)) (here ∙ sym e)))
names_once name (n ∷ ns) (suc k) pairs is =
    let there = index_is ns k name name is in
    sum_by-cons (λ (m : List ℕ). cond (bytes_eq m name) 1 0) n ns
    ∙ ap₂ (λ (b : Bool) m. cond b 1 0 + m) (other_name n name (λ e. pairs 0 (suc k) name (omega arith) (omega (arith, there.1)) (e ∙ sym there.0)))
    (names_once name ns k (λ i j d less within. pairs (suc i) (suc j) d (omega (arith, less)) (omega (arith, within))) is)

abbrev pub times : List ℕ → List Piece → ℕ
times name pieces = count_by (λ p. bytes_eq p.name name) pieces

pub times_more : (name : List ℕ) (p : Piece) (ps : List Piece) → times name (p ∷ ps) ≡ cond (bytes_eq p.name name) 1 0 + times name ps
times_more name p ps = sum_by-cons (λ (q : Piece). cond (bytes_eq q.name name) 1 0) p ps

times_by : (name : List ℕ) (ps : List Piece) → times name ps ≡ count_by (λ n. bytes_eq n name) (map (λ (p : Piece). p.name) ps)
times_by name [] = refl
times_by name (p ∷ ps) =
    times_more name p ps
    ∙ ap (λ k. cond (bytes_eq p.name name) 1 0 + k) (times_by name ps)
    ∙ sym (sum_by-cons (λ (n : List ℕ). cond (bytes_eq n name) 1 0) p.name (map (λ (q : Piece). q.name) ps))

pub pieces_never : (name : List ℕ) (ps : List Piece) (ns : List (List ℕ)) → map (λ (p : Piece). p.name) ps ≡ ns → All (λ n. n ≢ name) ns → times name ps ≡ 0
pieces_never name ps ns are all = times_by name ps ∙ ap (count_by (λ n. bytes_eq n name)) are ∙ names_never name ns all

pub pieces_once : (name : List ℕ) (ps : List Piece) (ns : List (List ℕ)) (k : ℕ) → map (λ (p : Piece). p.name) ps ≡ ns → AllPairs (λ a b. a ≢ b) ns → slice_get ns k ≡ Some name → times name ps ≡ 1
pieces_once name ps ns k are pairs is = times_by name ps ∙ ap (count_by (λ n. bytes_eq n name)) are ∙ names_once name ns k pairs is

pub pieces_apart : (name : List ℕ) (ps : List Piece) → All (λ (p : Piece). p.name ≢ name) ps → times name ps ≡ 0
pieces_apart name [] all = refl
pieces_apart name (p ∷ ps) all =
    times_more name p ps
    ∙ ap₂ (λ (b : Bool) k. cond b 1 0 + k) (other_name p.name name (all 0 p (omega arith))) (pieces_apart name ps (λ k d within. all (suc k) d (omega (arith, within))))

-- a dot begins no name of C
no_start : IsNameStart 46 → ⊥
no_start start = elim start [ inl h ↦ absurd (omega (arith, h.0)) | inr h ↦ elim h [ inl k ↦ absurd (omega (arith, k.0)) | inr e ↦ absurd (omega (arith, e)) ] ]

pub begins_with_dot : (name : List ℕ) → slice_index name 0 ≡ 46 → IsName name → ⊥
begins_with_dot name dot is = no_start (subst IsNameStart dot is.first)

-- routines: each name is that of one, and of no other piece
routine_dot : (r : Routine) → slice_index (routine_name r) 0 ≡ 46
routine_dot routine.DivInt = refl
routine_dot routine.DivUnsigned = refl
routine_dot routine.RemInt = refl
routine_dot routine.RemUnsigned = refl
routine_dot routine.ShrInt = refl
routine_dot routine.ShrUnsigned = refl

pub helper_dot : (h : HelperName) → slice_index (helper_name h) 0 ≡ 46
helper_dot h = routine_dot (routine_of h)

-- no name of C is that of a routine
pub routines_apart : (name : List ℕ) → IsName name → (test : Piece → Bool) → times name (filter test helper_pieces) ≡ 0
routines_apart name is test =
    pieces_apart name (filter test helper_pieces)
    (All-filter test (λ (q : Piece). q.name ≢ name) helper_pieces
    (All-map (λ (q : Piece). q.name ≢ name) routine_piece all_routines (λ k d within e. begins_with_dot _ (routine_dot (slice_index_or all_routines k d)) (subst IsName (sym e) is))))

pub no_startup : (h : HelperName) → bytes_eq startup_name (helper_name h) ≡ false
no_startup DivInt = refl
no_startup DivUnsigned = refl
no_startup RemInt = refl
no_startup RemUnsigned = refl
no_startup ShrInt = refl
no_startup ShrUnsigned = refl

one_routine : (h : HelperName) → times (helper_name h) helper_pieces ≡ 1
one_routine DivInt = refl
one_routine DivUnsigned = refl
one_routine RemInt = refl
one_routine RemUnsigned = refl
one_routine ShrInt = refl
one_routine ShrUnsigned = refl

-- a test that those pass which have a name doesn't change how many have it
passed : (name : List ℕ) (test : Piece → Bool) (ps : List Piece) → ((p : Piece) → p.name ≡ name → test p ≡ true) → times name (filter test ps) ≡ times name ps
passed name test [] all = refl
passed name test (p ∷ ps) all = by (test p) refl (passed name test ps all) ∙ sym (times_more name p ps)
  where
    by : (b : Bool) → test p ≡ b → times name (filter test ps) ≡ times name ps → times name (if b then p ∷ filter test ps else filter test ps) ≡ cond (bytes_eq p.name name) 1 0 + times name ps
    by true e rest = times_more name p (filter test ps) ∙ ap (λ k. cond (bytes_eq p.name name) 1 0 + k) rest
    by false e rest =
        let other : bytes_eq p.name name ≡ false = other_name p.name name (λ same. true≢false (sym (all p same) ∙ e)) in
        let none : times name ps ≡ cond false 1 0 + times name ps = omega arith in
        rest ∙ none ∙ sym (ap (λ (b : Bool). cond b 1 0 + times name ps) other)

pub helper_once : (h : HelperName) (pieces : List Piece) → pieces_call (helper_name h) pieces ≡ true → times (helper_name h) (called_helper_pieces pieces) ≡ 1
helper_once h pieces is = passed (helper_name h) (λ (q : Piece). pieces_call q.name pieces) helper_pieces (λ q same. ap (λ n. pieces_call n pieces) same ∙ is) ∙ one_routine h

-- the names that items call, and those that pieces call are called
pub each_called : (P : List ℕ → Type 0) (items : List PieceItem) → CallsAre P items → All P (names_called items)
each_called P [] h = All-nil P
each_called P (Do i ∷ items) h = each_called P items h
each_called P (Mark mark ∷ items) h = each_called P items h
each_called P (Jump op to o ∷ items) h = each_called P items h
each_called P (CallTo name o ∷ items) h = All-cons P name (names_called items) h.0 (each_called P items h.1)

or_right : (a b : Bool) → b ≡ true → (a || b) ≡ true
or_right true b e = refl
or_right false b e = e

or_left : (a b : Bool) → a ≡ true → (a || b) ≡ true
or_left true b e = refl
or_left false b e = absurd cc

items_called : (items : List PieceItem) → All (λ name. items_call name items ≡ true) (names_called items)
items_called [] = All-nil _
items_called (Do i ∷ items) = items_called items
items_called (Mark mark ∷ items) = items_called items
items_called (Jump op to o ∷ items) = items_called items
items_called (CallTo name o ∷ items) =
    All-cons (λ n. items_call n (CallTo name o ∷ items) ≡ true) name (names_called items)
    (or_left (bytes_eq name name) (items_call name items) (same_name name name refl))
    (λ k d within. or_right (bytes_eq name _) _ (items_called items k d within))

pub pieces_called : (ps : List Piece) → All (λ (q : Piece). All (λ name. pieces_call name ps ≡ true) (names_called q.items)) ps
pieces_called [] = All-nil _
pieces_called (p ∷ ps) =
    All-cons (λ (q : Piece). All (λ name. pieces_call name (p ∷ ps) ≡ true) (names_called q.items)) p ps
    (λ k d within. or_left _ _ (items_called p.items k d within))
    (λ k d within j e inside. or_right _ _ (pieces_called ps k d within j e inside))
