-- What puts make of a sink.
use Rattle.std.proofs.Common.{arith, ◌≡◌, ◌∙◌, ℕ, Bool, subst, ap, List, ◌++◌, take, Ok, Err, OnOk, IfOk, IfErr, IsTrue, inl, inr}
use Rattle.std.specs.Prelude.{Result, String, string_bytes}
use Rattle.std.specs.declared.alloc.Global.{Global}
use Rattle.word_base.specs.declared.text.NoMemory.{NoMemory as Wanting}
use Rattle.cc_shelf.specs.Counts.{Rose}
use Rattle.cc_shelf.specs.Output.{Output}
use Rattle.cc_shelf.specs.declared.sink.SinkFault.{SinkFault}
use Rattle.cc_shelf.specs.declared.sink.SinkFault.TheVariants.{Failed, NoMemory}
use Rattle.cc_shelf.specs.SinkAnswers.{PutRefused}
use Rattle.cc_shelf.specs.Reliable.{PutsStayReliable}
use Rattle.cc_files.specs.World.{Sinks}
use Rattle.cc_files.specs.Puts.{LinePut, Whole, Part, Nothing, TextPut, SaysLine, SaysMade}

-- a put of a line, whatever it answers
pub line_put : (tells : Bool) (line : List ℕ) (before now : Output) (r : Result (Unit {0}) SinkFault) → OnOk r (IsTrue tells → now.bytes ≡ before.bytes ++ line) → OnOk r (now.faults ≡ before.faults)
    → IfErr r (PutRefused tells line before now) → IsTrue tells → LinePut line before now
line_put tells line before now (Ok u) told success refused t = Whole (told t) success
line_put tells line before now (Err Failed) told success refused t = let part = refused.1 t in Part refused.0 part.0 part.1
line_put tells line before now (Err NoMemory) told success refused t = Nothing (refused.0 t) refused.1 refused.2

-- a line that was made
pub line_made : (r : Result (String Global) Wanting) (line : List ℕ) (given ends : ℕ) (sink : Sinks) (status : ℕ) → IfOk r (λ l. string_bytes l ≡ line) → given ≡ ends
    → SaysMade r given sink status → SaysLine line ends sink status
line_made (Ok l) line given ends sink status e same says =
    inl (subst (λ n. TextPut line n n sink status) same (subst (λ t. TextPut t given given sink status) e says))
line_made (Err e) line given ends sink status is same says = inr says

-- puts that follow puts
pub puts_reliable : (first between last : Output) → PutsStayReliable first between → PutsStayReliable between last → PutsStayReliable first last
puts_reliable first between last one more reliable =
    let former = one reliable in
    let latter = more former.reliable in
    record { reliable = latter.reliable; faults = latter.faults ∙ former.faults }

-- what rose twice rose
rose_again : (a b c : ℕ) → Rose a b → Rose b c → Rose a c
rose_again a b c one two = omega (arith, one, two)

-- a put behind one that left the bytes and the count of faults as they were
pub line_behind : (tells : Bool) (line : List ℕ) (first between last : Output) → (IsTrue tells → between.bytes ≡ first.bytes) → between.faults ≡ first.faults → Rose first.wants between.wants
    → (IsTrue tells → LinePut line between last) → IsTrue tells → LinePut line first last
line_behind tells line first between last same faults wants put t = go (put t)
  where
    go : LinePut line between last → LinePut line first last
    go (Whole e f) = Whole (e ∙ ap (λ b. b ++ line) (same t)) (f ∙ faults)
    go (Part rose n e) = Part (subst (λ f. Rose f last.faults) faults rose) n (e ∙ ap (λ b. b ++ take n line) (same t))
    go (Nothing e f rose) = Nothing (e ∙ same t) (f ∙ faults) (rose_again first.wants between.wants last.wants wants rose)
