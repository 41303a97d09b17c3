use Rattle.cc_compile.proofs.OneImage.{one, frames_same, no_data, no_code, data_one, code_one, data_or_code}
use Rattle.cc_compile.proofs.image_laws.one_image.Goals as goal

pub returns : goal.returns
returns c = record { one = one; same = frames_same; no_data = no_data; no_code = no_code; one_data = data_one; one_code = code_one; apart = data_or_code }
