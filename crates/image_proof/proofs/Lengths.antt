-- How many instructions fill words in: two for each word, and one for each object.
use Rattle.std.proofs.Common.{ℕ, ◌+◌, ◌*◌, ◌≤◌, Bool, true, false, List, [], ◌∷◌, length, map, Option, Some, None, arith, cond, length-append}
use Rattle.std.specs.Prelude.{◌==◌}
use Rattle.std.proofs.lemmas.List.{length-map}
use Rattle.c25_isa.specs.declared.instruction.Instr.{Instr}
use Rattle.c_tree.specs.TypedTree.{ObjectTree}
use Rattle.mem_plan.specs.DataNeeds.{object_words}
use Rattle.frame_emit.specs.Startup.{initial_word, up_to_last, load_of, word_load, store_up, words_code, filling_code}
use Rattle.image_proof.proofs.Stores.{up_to_last-short}

load_short : (held : Bool) (i : Instr) → length (cond held [] (i ∷ [])) ≤ 1
load_short true i = omega arith
load_short false i = omega arith

word_load-short : (held : Option ℕ) (x : ℕ) → length (word_load held x) ≤ 1
word_load-short None x = load_short false (load_of x)
word_load-short (Some v) x = load_short (v == x) (load_of x)

words_code-short : (ws : List ℕ) (held : Option ℕ) → length (words_code held ws) ≤ 2 * length ws
words_code-short [] held = omega arith
words_code-short (x ∷ xs) held = omega (arith, length-append (word_load held x) (store_up ∷ words_code (Some x) xs), word_load-short held x, words_code-short xs (Some x))

filling_code-short : (ws : List ℕ) (a : ℕ) → length (filling_code a ws) ≤ 1 + 2 * length ws
filling_code-short [] a = omega arith
filling_code-short (x ∷ xs) a = omega (arith, words_code-short (x ∷ xs) None)

-- what the list of an object has room for
abbrev pub HasRoom : ObjectTree → Type 0
HasRoom o = length o.initial ≤ o.length

pub object_words_short : (statics : List ℕ) (o : ObjectTree) → HasRoom o → length (up_to_last (map (initial_word statics) o.initial)) ≤ o.length
object_words_short statics o room = omega (arith, room, up_to_last-short (map (initial_word statics) o.initial), length-map o.initial (initial_word statics))

pub object_short : (statics : List ℕ) (o : ObjectTree) (a : ℕ) → HasRoom o → length (filling_code a (up_to_last (map (initial_word statics) o.initial))) ≤ 2 * object_words o
object_short statics o a room = omega (arith, object_words_short statics o room, filling_code-short (up_to_last (map (initial_word statics) o.initial)) a)
