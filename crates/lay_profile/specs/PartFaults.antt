-- The fault of a recorded run that the fault of a part is. Want of memory in a part is want of memory.
use Rattle.c25_walk.specs.declared.fault.WalkFault.{WalkFault}
use Rattle.c25_walk.specs.declared.fault.WalkFault.TheVariants as walk
use Rattle.cc_compile.specs.declared.fault.BuildFault.{BuildFault}
use Rattle.cc_compile.specs.declared.fault.BuildFault.TheVariants as build
use Rattle.cc_compile.specs.declared.translation_fault.TranslationFault.{TranslationFault}
use Rattle.cc_compile.specs.declared.translation_fault.TranslationFault.TheVariants as translation
use Rattle.lay_profile.specs.declared.fault.ProfileFault.{ProfileFault}
use Rattle.lay_profile.specs.declared.fault.ProfileFault.TheVariants.{Lex, Parse, Types, OtherSource, Plan, Link, NoMemory}

abbrev pub of_build_fault : BuildFault → ProfileFault
of_build_fault (build.Lex why) = Lex why
of_build_fault (build.Parse why) = Parse why
of_build_fault (build.Types why) = Types why
of_build_fault (build.Plan why) = Plan why
of_build_fault (build.Link why) = Link why
of_build_fault build.NoMemory = NoMemory

abbrev pub of_translation_fault : TranslationFault → ProfileFault
of_translation_fault (translation.Plan why) = Plan why
of_translation_fault (translation.Link why) = Link why
of_translation_fault translation.NoMemory = NoMemory

-- an image whose walk has a fault isn't that of the source
abbrev pub of_walk_fault : WalkFault → ProfileFault
of_walk_fault walk.NoMemory = NoMemory
of_walk_fault (walk.BadWord at) = OtherSource
of_walk_fault (walk.UnknownAddress at) = OtherSource
