-- Each routine answers where it is called, so the pieces of routines are helpers.
use Rattle.std.proofs.Common.{◌≡◌, List, refl, sym, subst}
use Rattle.std.specs.Prelude.{All, slice_index_or}
use Rattle.std.proofs.lemmas.List.Elements.{All-filter, All-map}
use Rattle.c25_isa.specs.Pieces.{Piece}
use Rattle.c25_helper.specs.declared.routine.Routine.{Routine}
use Rattle.c25_helper.specs.declared.routine.Routine.TheVariants.{DivInt, DivUnsigned, RemInt, RemUnsigned, ShrInt, ShrUnsigned}
use Rattle.c25_helper.specs.Routines.{routine_items, routine_piece, all_routines, helper_pieces}
use Rattle.c25_helper.specs.Calls.{pieces_call, called_helper_pieces}
use Rattle.c25_helper.specs.Results.{HelperResult, HelperWithin, IsHelper}
use Rattle.c25_helper.proofs.DivInt.{div_int}
use Rattle.c25_helper.proofs.DivUnsigned.{div_unsigned}
use Rattle.c25_helper.proofs.RemInt.{rem_int}
use Rattle.c25_helper.proofs.RemUnsigned.{rem_unsigned}
use Rattle.c25_helper.proofs.ShrInt.{shr_int}
use Rattle.c25_helper.proofs.ShrUnsigned.{shr_unsigned}

pub each_within : (r : Routine) → HelperWithin r (routine_items r)
each_within DivInt = div_int
each_within DivUnsigned = div_unsigned
each_within RemInt = rem_int
each_within RemUnsigned = rem_unsigned
each_within ShrInt = shr_int
each_within ShrUnsigned = shr_unsigned

pub each_answers : (r : Routine) → HelperResult r (routine_items r)
each_answers r = record {
  by = λ program marks names entry pc w value stands here below short left right is. ((each_within r).by program marks names entry pc w value stands here below short left right is).back;
}

is_helper : (r : Routine) → IsHelper (routine_piece r)
is_helper r = record { routine = r; name = refl; result = each_answers r }

pub all_help : All IsHelper helper_pieces
all_help = All-map IsHelper routine_piece all_routines (λ k d within. is_helper (slice_index_or all_routines k d))

pub called_help : (pieces : List Piece) → All IsHelper (called_helper_pieces pieces)
called_help pieces = All-filter (λ (helper : Piece). pieces_call helper.name pieces) IsHelper helper_pieces all_help

pub pieces_help : (pieces helpers : List Piece) → pieces ≡ helpers → All IsHelper helpers → All IsHelper pieces
pieces_help pieces helpers are all = subst (All IsHelper) (sym are) all
