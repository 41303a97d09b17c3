-- The direct operand of each row.
use Rattle.std.proofs.Common.{◌≡◌, ◌⊎◌, inl, inr, ℕ, ◌-◌, Bool, true, false, [], ◌∷◌, Option, Some, None, refl}
use Rattle.std.specs.Prelude.{◌==◌, ◌&&◌, nat_lt, if◌then◌else◌}
use Rattle.std.specs.List.{AllByRecursion}
use Rattle.c25_isa.specs.declared.operand.Indirect.{Indirect}
use Rattle.c25_isa.specs.declared.operand.Operand.{Operand}
use Rattle.c25_isa.specs.declared.operand.Operand.TheVariants.{Indirect as Through}
use Rattle.c25_isa.specs.declared.instruction.Instr.{Instr}
use Rattle.c25_isa.specs.declared.instruction.Instr.TheVariants.{Adrk, Sbrk, Lrlk}
use Rattle.c25_isa.specs.Direct.{is_store, direct_offset, as_direct, page_behind}
use Rattle.acc_code.specs.declared.operation.AccOp.{AccOp}
use Rattle.acc_code.specs.declared.operation.AccOp.TheVariants as row
use Rattle.emit_blocks.specs.Instructions.{word_instr, constant_instr}
use Rattle.emit_blocks.specs.Moves.{moved, made_current}
use Rattle.image_proof.specs.DirectRuns.{stores}

-- no direct operand, and the page stays
pub record IsPlain (i : Instr) : Type 0 where
  pub none : direct_offset i ≡ None
  pub page : (p : Option ℕ) → page_behind p i ≡ p

plain : (i : Instr) → direct_offset i ≡ None → ((p : Option ℕ) → page_behind p i ≡ p) → IsPlain i
plain i n p = record { none = n; page = p }

-- a row that takes a word has its operand
pub record TakesWord (o : AccOp) (m : Operand) : Type 0 where
  pub offset : direct_offset (word_instr o m) ≡ as_direct m
  pub stores_so : is_store (word_instr o m) ≡ stores o
  pub page : (p : Option ℕ) → page_behind p (word_instr o m) ≡ p

pub word_row : (o : AccOp) (m : Operand) → TakesWord o m ⊎ (IsPlain (word_instr o m) × (stores o ≡ false))
word_row row.Point m = inl (record { offset = refl; stores_so = refl; page = λ p. refl })
word_row (row.Add s) m = inl (record { offset = refl; stores_so = refl; page = λ p. refl })
word_row (row.Sub s) m = inl (record { offset = refl; stores_so = refl; page = λ p. refl })
word_row (row.Lac s) m = inl (record { offset = refl; stores_so = refl; page = λ p. refl })
word_row row.Mpy m = inl (record { offset = refl; stores_so = refl; page = λ p. refl })
word_row row.Lt m = inl (record { offset = refl; stores_so = refl; page = λ p. refl })
word_row row.Zals m = inl (record { offset = refl; stores_so = refl; page = λ p. refl })
word_row row.Lact m = inl (record { offset = refl; stores_so = refl; page = λ p. refl })
word_row row.Subs m = inl (record { offset = refl; stores_so = refl; page = λ p. refl })
word_row row.Adds m = inl (record { offset = refl; stores_so = refl; page = λ p. refl })
word_row row.Xor m = inl (record { offset = refl; stores_so = refl; page = λ p. refl })
word_row row.Or m = inl (record { offset = refl; stores_so = refl; page = λ p. refl })
word_row row.And m = inl (record { offset = refl; stores_so = refl; page = λ p. refl })
word_row (row.Sacl s) m = inl (record { offset = refl; stores_so = refl; page = λ p. refl })
word_row (row.Sach s) m = inl (record { offset = refl; stores_so = refl; page = λ p. refl })
word_row (row.In s) m = inl (record { offset = refl; stores_so = refl; page = λ p. refl })
word_row (row.Out s) m = inl (record { offset = refl; stores_so = refl; page = λ p. refl })
word_row row.Mpyk m = inr (record { none = refl; page = λ p. refl }, refl)
word_row row.Lack m = inr (record { none = refl; page = λ p. refl }, refl)
word_row row.Addk m = inr (record { none = refl; page = λ p. refl }, refl)
word_row row.Subk m = inr (record { none = refl; page = λ p. refl }, refl)
word_row (row.Lalk s) m = inr (record { none = refl; page = λ p. refl }, refl)
word_row (row.Adlk s) m = inr (record { none = refl; page = λ p. refl }, refl)
word_row (row.Sblk s) m = inr (record { none = refl; page = λ p. refl }, refl)
word_row row.Andk m = inr (record { none = refl; page = λ p. refl }, refl)
word_row row.Ork m = inr (record { none = refl; page = λ p. refl }, refl)
word_row row.Xork m = inr (record { none = refl; page = λ p. refl }, refl)
word_row row.Dint m = inr (record { none = refl; page = λ p. refl }, refl)
word_row row.Rovm m = inr (record { none = refl; page = λ p. refl }, refl)
word_row row.Rsxm m = inr (record { none = refl; page = λ p. refl }, refl)
word_row row.Ssxm m = inr (record { none = refl; page = λ p. refl }, refl)
word_row row.Spm m = inr (record { none = refl; page = λ p. refl }, refl)
word_row row.Pac m = inr (record { none = refl; page = λ p. refl }, refl)
word_row row.Apac m = inr (record { none = refl; page = λ p. refl }, refl)
word_row row.Spac m = inr (record { none = refl; page = λ p. refl }, refl)
word_row row.Sfl m = inr (record { none = refl; page = λ p. refl }, refl)
word_row row.Sfr m = inr (record { none = refl; page = λ p. refl }, refl)
word_row row.Neg m = inr (record { none = refl; page = λ p. refl }, refl)
word_row row.Cmpl m = inr (record { none = refl; page = λ p. refl }, refl)

pub indirect_plain : (o : AccOp) (x : Indirect) → IsPlain (word_instr o (Through x))
indirect_plain row.Point x = plain _ refl (λ p. refl)
indirect_plain (row.Add s) x = plain _ refl (λ p. refl)
indirect_plain (row.Sub s) x = plain _ refl (λ p. refl)
indirect_plain (row.Lac s) x = plain _ refl (λ p. refl)
indirect_plain row.Mpy x = plain _ refl (λ p. refl)
indirect_plain row.Lt x = plain _ refl (λ p. refl)
indirect_plain row.Zals x = plain _ refl (λ p. refl)
indirect_plain row.Lact x = plain _ refl (λ p. refl)
indirect_plain row.Subs x = plain _ refl (λ p. refl)
indirect_plain row.Adds x = plain _ refl (λ p. refl)
indirect_plain row.Xor x = plain _ refl (λ p. refl)
indirect_plain row.Or x = plain _ refl (λ p. refl)
indirect_plain row.And x = plain _ refl (λ p. refl)
indirect_plain (row.Sacl s) x = plain _ refl (λ p. refl)
indirect_plain (row.Sach s) x = plain _ refl (λ p. refl)
indirect_plain (row.In s) x = plain _ refl (λ p. refl)
indirect_plain (row.Out s) x = plain _ refl (λ p. refl)
indirect_plain row.Mpyk x = plain _ refl (λ p. refl)
indirect_plain row.Lack x = plain _ refl (λ p. refl)
indirect_plain row.Addk x = plain _ refl (λ p. refl)
indirect_plain row.Subk x = plain _ refl (λ p. refl)
indirect_plain (row.Lalk s) x = plain _ refl (λ p. refl)
indirect_plain (row.Adlk s) x = plain _ refl (λ p. refl)
indirect_plain (row.Sblk s) x = plain _ refl (λ p. refl)
indirect_plain row.Andk x = plain _ refl (λ p. refl)
indirect_plain row.Ork x = plain _ refl (λ p. refl)
indirect_plain row.Xork x = plain _ refl (λ p. refl)
indirect_plain row.Dint x = plain _ refl (λ p. refl)
indirect_plain row.Rovm x = plain _ refl (λ p. refl)
indirect_plain row.Rsxm x = plain _ refl (λ p. refl)
indirect_plain row.Ssxm x = plain _ refl (λ p. refl)
indirect_plain row.Spm x = plain _ refl (λ p. refl)
indirect_plain row.Pac x = plain _ refl (λ p. refl)
indirect_plain row.Apac x = plain _ refl (λ p. refl)
indirect_plain row.Spac x = plain _ refl (λ p. refl)
indirect_plain row.Sfl x = plain _ refl (λ p. refl)
indirect_plain row.Sfr x = plain _ refl (λ p. refl)
indirect_plain row.Neg x = plain _ refl (λ p. refl)
indirect_plain row.Cmpl x = plain _ refl (λ p. refl)

pub constant_plain : (o : AccOp) (c : ℕ) → IsPlain (constant_instr o c)
constant_plain row.Point c = plain _ refl (λ p. refl)
constant_plain (row.Add s) c = plain _ refl (λ p. refl)
constant_plain (row.Sub s) c = plain _ refl (λ p. refl)
constant_plain (row.Lac s) c = plain _ refl (λ p. refl)
constant_plain row.Mpy c = plain _ refl (λ p. refl)
constant_plain row.Lt c = plain _ refl (λ p. refl)
constant_plain row.Zals c = plain _ refl (λ p. refl)
constant_plain row.Lact c = plain _ refl (λ p. refl)
constant_plain row.Subs c = plain _ refl (λ p. refl)
constant_plain row.Adds c = plain _ refl (λ p. refl)
constant_plain row.Xor c = plain _ refl (λ p. refl)
constant_plain row.Or c = plain _ refl (λ p. refl)
constant_plain row.And c = plain _ refl (λ p. refl)
constant_plain (row.Sacl s) c = plain _ refl (λ p. refl)
constant_plain (row.Sach s) c = plain _ refl (λ p. refl)
constant_plain (row.In s) c = plain _ refl (λ p. refl)
constant_plain (row.Out s) c = plain _ refl (λ p. refl)
constant_plain row.Mpyk c = plain _ refl (λ p. refl)
constant_plain row.Lack c = plain _ refl (λ p. refl)
constant_plain row.Addk c = plain _ refl (λ p. refl)
constant_plain row.Subk c = plain _ refl (λ p. refl)
constant_plain (row.Lalk s) c = plain _ refl (λ p. refl)
constant_plain (row.Adlk s) c = plain _ refl (λ p. refl)
constant_plain (row.Sblk s) c = plain _ refl (λ p. refl)
constant_plain row.Andk c = plain _ refl (λ p. refl)
constant_plain row.Ork c = plain _ refl (λ p. refl)
constant_plain row.Xork c = plain _ refl (λ p. refl)
constant_plain row.Dint c = plain _ refl (λ p. refl)
constant_plain row.Rovm c = plain _ refl (λ p. refl)
constant_plain row.Rsxm c = plain _ refl (λ p. refl)
constant_plain row.Ssxm c = plain _ refl (λ p. refl)
constant_plain row.Spm c = plain _ refl (λ p. refl)
constant_plain row.Pac c = plain _ refl (λ p. refl)
constant_plain row.Apac c = plain _ refl (λ p. refl)
constant_plain row.Spac c = plain _ refl (λ p. refl)
constant_plain row.Sfl c = plain _ refl (λ p. refl)
constant_plain row.Sfr c = plain _ refl (λ p. refl)
constant_plain row.Neg c = plain _ refl (λ p. refl)
constant_plain row.Cmpl c = plain _ refl (λ p. refl)

pub current_plain : (known : Bool) (r : ℕ) → AllByRecursion IsPlain (made_current known r)
current_plain true r = tt
current_plain false r = (plain _ refl (λ p. refl), tt)

pub moved_plain : (r : ℕ) (stands : Option ℕ) (a : ℕ) → AllByRecursion IsPlain (moved r stands a)
moved_plain r None a = (plain _ refl (λ p. refl), tt)
moved_plain r (Some p) a = by (p == a) (nat_lt p a && nat_lt (a - p) 256) (nat_lt a p && nat_lt (p - a) 256)
  where
    by : (b c d : Bool) → AllByRecursion IsPlain (if b then [] else (if c then Adrk (a - p) ∷ [] else (if d then Sbrk (p - a) ∷ [] else Lrlk r a ∷ [])))
    by true c d = tt
    by false true d = (plain _ refl (λ p. refl), tt)
    by false false true = (plain _ refl (λ p. refl), tt)
    by false false false = (plain _ refl (λ p. refl), tt)
