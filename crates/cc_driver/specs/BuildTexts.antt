-- What `build` has in memory: what is asked for, and the texts of what it makes.
use Rattle.std.specs.Prelude.{ℕ, List, [], ◌∷◌, Some, string_bytes}
use Rattle.cc_words.specs.Asked.{Asked, ToBuild}
use Rattle.cc_words.specs.declared.build.Build.{Build}
use Rattle.cc_files.specs.frame_layouts.declared.options.Options.{Options}
use Rattle.cc_answers.specs.Answers.{Answered}
use Rattle.cc_driver.specs.declared.build.Texts.{Texts}
use Rattle.cc_files.specs.Stores.{Stored}
use Rattle.cc_driver.specs.Build.{chosen_options}

abbrev pub asked_of : Build → Asked
asked_of asked = ToBuild asked.source.now asked.image.now asked.registers asked.budget asked.step

abbrev pub options_of : Build → Options
options_of asked = chosen_options asked.registers asked.budget asked.step

-- what is stored, where the image has this name
abbrev pub stored_of : List ℕ → Texts → List Stored
stored_of image texts = record { name = image; text = texts.image.items } ∷ record { name = string_bytes texts.name; text = texts.certificate.items } ∷ []

-- what is put
abbrev pub answer_of : Texts → Answered
answer_of texts = record { text = Some texts.report.items; status = 0 }
