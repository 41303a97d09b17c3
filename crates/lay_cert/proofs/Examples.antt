-- Texts of certificates, and what bytes are read as, by hand.
use Rattle.std.proofs.Common.{rules, ◌≡◌, ◌≤◌, ◌<◌, ℕ, zero, suc, true, false, [], ◌∷◌, ◌++◌, List, length, refl, inl, inr, arith, lit≤, lit<, ◌==◌}
use Rattle.std.specs.Prelude.{codes, count_by}
use Rattle.std.specs.Fmt.{digits}
use Rattle.std.proofs.lemmas.List.Elements.{All-from_recursion}
use Rattle.word_base.specs.Name.{IsName, IsNamePart}
use Rattle.lay_model.specs.Sequences.{Block}
use Rattle.lay_model.specs.Arrangements.{Arranges}
use Rattle.lay_tree.specs.declared.answer.Mark.TheVariants.{Branched, Closed}
use Rattle.lay_cert.specs.declared.certificate.Claim.TheVariants.{Optimal, Best}
use Rattle.lay_cert.specs.declared.fault.CertFault.TheVariants as faults
use Rattle.lay_cert.specs.Frames.{Frame}
use Rattle.lay_cert.specs.CertText.{cert_text, old_text, claim_line}
use Rattle.lay_lines.specs.ListText.{list_line}
use Rattle.lay_lines.specs.MarkText.{is_short}
use Rattle.lay_cert.specs.CertReading.{Head, Between, Named, Counted, Stepped, Listing, Costed, Claimed, Unread, Inside, Finished, Reached, Reads, Says, head_of, frame_of}
use Rattle.lay_cert.proofs.Places.{reached_start, stuck, none_without_feed}

abbrev block : Block
block = record { weight = 1; accesses = 0 ∷ 1 ∷ [] }

abbrev fir : Frame
fir = record {
  name = codes "fir";
  registers = 1;
  seq = record { scalars = 2; step = 2; blocks = block ∷ [] };
  arr = (0 ∷ 1 ∷ []) ∷ [];
  bases = 784 ∷ [];
  cost = 1;
  claim = Optimal;
  log = Closed ∷ [];
}

abbrev old : Frame
old = record {
  name = codes "v";
  registers = 1;
  seq = record { scalars = 3; step = 1; blocks = record { weight = 1; accesses = 0 ∷ 1 ∷ 2 ∷ 0 ∷ [] } ∷ [] };
  arr = (1 ∷ 0 ∷ 2 ∷ []) ∷ [];
  bases = 784 ∷ [];
  cost = 2;
  claim = Optimal;
  log = Branched ∷ Closed ∷ Closed ∷ Closed ∷ [];
}

written : cert_text (fir ∷ []) ≡ codes "C25 CERTIFICATE 2\nframe fir\nregisters 1\nstep 2\nscalars 2\nblock 1 0 1\nlist 0310 0 1\ncost 1\nclaim optimal\nmarks 1\nc\nendframe\nend\n"
unfolding digits
written = refl

written_old : old_text (old ∷ []) ≡ codes "C25 CERTIFICATE 1\nframe v\nregisters 1\nscalars 3\nblock 1 0 1 2 0\nlist 0310 1 0 2\ncost 2\nclaim optimal\nmarks 4\nbccc\nendframe\nend\n"
unfolding digits
written_old = refl

written_empty : cert_text [] ≡ codes "C25 CERTIFICATE 2\nend\n"
unfolding digits
written_empty = refl

best : claim_line (Best 255 4294967295) ≡ codes "claim best 255 4294967295"
unfolding digits
best = refl

high_base : list_line 65218 (63 ∷ []) ≡ codes "list fec2 63"
unfolding digits
high_base = refl

-- ---- how many marks there are

one_short : is_short 4 (codes "bcc\nendframe\n") ≡ true
one_short = refl

none_left : is_short 4 [] ≡ true
none_left = refl

-- lines that aren't full count too
two_lines : is_short 4 (codes "bc\ncc\nendframe\n") ≡ false
two_lines = refl

-- a blank line ends the run, as any other line does
blank : is_short 4 (codes "bcc\n\nc\n") ≡ true
blank = refl

other : is_short 4 (codes "bcc\nccx\n") ≡ true
other = refl

-- a text that ends in a line of marks isn't short
cut_off : is_short 4 (codes "bc") ≡ false
cut_off = refl

-- ---- what is read, up to the marks of a frame

abbrev head : Head
head = head_of (codes "fir") 1 2 2

abbrev unmarked : Frame
unmarked = frame_of head (block ∷ []) (784 ∷ []) ((0 ∷ 1 ∷ []) ∷ []) 1 Optimal

abbrev front : List (List ℕ)
front = codes "C25 CERTIFICATE 2" ∷ codes "frame fir" ∷ codes "registers 1" ∷ codes "step 2" ∷ codes "scalars 2" ∷ codes "block 1 0 1" ∷ codes "list 0310 0 1" ∷ codes "cost 1" ∷ codes "claim optimal" ∷ []

abbrev text_of : List ℕ → List ℕ
text_of text = codes "C25 CERTIFICATE 2\nframe fir\nregisters 1\nstep 2\nscalars 2\nblock 1 0 1\nlist 0310 0 1\ncost 1\nclaim optimal\n" ++ text

named : IsName (codes "fir")
named = record {
  from_one = lit≤ tt;
  to_127 = lit≤ tt;
  first = inr (inl (lit≤ tt, lit≤ tt));
  each = All-from_recursion IsNamePart (codes "fir") (inl (inr (inl (lit≤ tt, lit≤ tt))), (inl (inr (inl (lit≤ tt, lit≤ tt))), (inl (inr (inl (lit≤ tt, lit≤ tt))), tt)));
}

arranged : Arranges 2 ((0 ∷ 1 ∷ []) ∷ [])
arranged = record {
  few = lit≤ tt;
  some = All-from_recursion (λ list. 1 ≤ length list) ((0 ∷ 1 ∷ []) ∷ []) (lit≤ tt, tt);
  all = refl;
  once = λ scalar lt. each scalar lt;
}
  where
    each : (scalar : ℕ) → scalar < 2 → count_by (λ s. s == scalar) (0 ∷ 1 ∷ []) ≡ 1
    each zero lt = refl
    each (suc zero) lt = refl
    each (suc (suc n)) lt = absurd (omega arith)

claimed : (text : List ℕ) → Reached (text_of text) 9 text (Inside true [] (Claimed unmarked))
unfolding digits
claimed text = record {
  front = front;
  cut = refl;
  counted = refl;
  runs = (
    Inside true [] Between,
    search rules,
    (2, lit< tt, refl, refl),
    (
      Inside true [] (Named (codes "fir")),
      search rules,
      inl (codes "fir", named, refl, refl),
      (
        Inside true [] (Counted (codes "fir") 1),
        search rules,
        (1, lit≤ tt, lit≤ tt, refl, refl),
        (
          Inside true [] (Stepped (codes "fir") 1 2),
          search rules,
          (2, lit≤ tt, lit≤ tt, refl, refl),
          (
            Inside true [] (Listing head [] [] []),
            search rules,
            (2, lit≤ tt, refl, refl),
            (
              Inside true [] (Listing head (block ∷ []) [] []),
              search rules,
              inl (block, record { few = lit≤ tt; before = refl; is_block = record { block = record { counts = lit≤ tt; some = lit≤ tt }; weight = lit< tt; below = All-from_recursion (λ scalar. scalar < 2) (0 ∷ 1 ∷ []) (lit< tt, (lit< tt, tt)); fits = lit≤ tt }; text = refl }, refl),
              (
                Inside true [] (Listing head (block ∷ []) (784 ∷ []) ((0 ∷ 1 ∷ []) ∷ [])),
                search rules,
                inr (inl (784, 0 ∷ 1 ∷ [], record { room = lit< tt; fits = lit< tt; each = (lit< tt, (lit< tt, tt)); text = refl }, refl)),
                (
                  Inside true [] (Costed head (block ∷ []) (784 ∷ []) ((0 ∷ 1 ∷ []) ∷ []) 1),
                  search rules,
                  inr (inr (1, record { arranged = arranged; fits = lit< tt; text = refl }, refl)),
                  (
                    Inside true [] (Claimed unmarked),
                    search rules,
                    (Optimal, tt, refl, refl),
                    refl,
                  ),
                ),
              ),
            ),
          ),
        ),
      ),
    ),
  );
}

-- ---- faults

-- three marks where four are stated
short : Says (text_of (codes "marks 4\nbcc\nendframe\nend\n")) (faults.Short 0)
unfolding digits
short = record { place = Inside true [] (Claimed unmarked); number = 9; line = codes "marks 4"; more = codes "bcc\nendframe\nend\n"; reached = claimed (codes "marks 4\nbcc\nendframe\nend\n"); whole = search rules; step = (4, lit< tt, refl, refl) }

-- cut behind the line that states them
cut_short : Says (text_of (codes "marks 4\n")) (faults.Short 0)
unfolding digits
cut_short = record { place = Inside true [] (Claimed unmarked); number = 9; line = codes "marks 4"; more = []; reached = claimed (codes "marks 4\n"); whole = search rules; step = (4, lit< tt, refl, refl) }

-- cut within that line
cut_before : Says (text_of (codes "marks 4")) (faults.BadLine 10)
cut_before = stuck (text_of (codes "marks 4")) 9 (codes "marks 4") (Inside true [] (Claimed unmarked)) (claimed (codes "marks 4")) (none_without_feed (Inside true [] (Claimed unmarked)) (codes "marks 4") (search rules)) (λ fs e. absurd cc)

version : Says (codes "C25 CERTIFICATE 3\nframe") (faults.Version 3)
unfolding digits
version = record { place = Unread; number = 0; line = codes "C25 CERTIFICATE 3"; more = codes "frame"; reached = reached_start (codes "C25 CERTIFICATE 3\nframe"); whole = search rules; step = (3, lit< tt, refl, refl) }

-- no line feed comes before the version
version_cut : Says (codes "C25 CERTIFICATE 3") (faults.BadLine 1)
version_cut = stuck (codes "C25 CERTIFICATE 3") 0 (codes "C25 CERTIFICATE 3") Unread (reached_start (codes "C25 CERTIFICATE 3")) (none_without_feed Unread (codes "C25 CERTIFICATE 3") (search rules)) (λ fs e. absurd cc)

nothing : Says [] (faults.BadLine 1)
nothing = stuck [] 0 [] Unread (reached_start []) (none_without_feed Unread [] tt) (λ fs e. absurd cc)

ended : (text : List ℕ) → Reached (codes "C25 CERTIFICATE 2\nend\n" ++ text) 2 text (Finished [])
unfolding digits
ended text = record {
  front = codes "C25 CERTIFICATE 2" ∷ codes "end" ∷ [];
  cut = refl;
  counted = refl;
  runs = (Inside true [] Between, search rules, (2, lit< tt, refl, refl), (Finished [], search rules, inr (refl, refl), refl));
}

read_empty : Reads (codes "C25 CERTIFICATE 2\nend\n") []
read_empty = record { number = 2; reached = ended [] }

-- a line behind the last one
end_twice : Says (codes "C25 CERTIFICATE 2\nend\nend\n") (faults.BadLine 3)
end_twice = stuck (codes "C25 CERTIFICATE 2\nend\nend\n") 2 (codes "end\n") (Finished []) (ended (codes "end\n")) (λ line more turn w e s. s) (λ fs e f. absurd cc)
