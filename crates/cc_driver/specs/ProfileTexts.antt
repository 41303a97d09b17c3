-- What is asked of `pbuild`, as it is in memory.
use Rattle.cc_words.specs.Asked.{Asked, ToPbuild}
use Rattle.cc_words.specs.declared.pbuild.Pbuild.{Pbuild}
use Rattle.cc_files.specs.lay_profile.declared.options.ProfileOptions.{ProfileOptions}
use Rattle.cc_driver.specs.Profile.{recorded_options}

abbrev pub asked_of : Pbuild → Asked
asked_of asked = ToPbuild asked.source.now asked.first.now asked.ports.now asked.image.now asked.registers asked.budget asked.steps

abbrev pub options_of : Pbuild → ProfileOptions
options_of asked = recorded_options asked.registers asked.budget asked.steps
