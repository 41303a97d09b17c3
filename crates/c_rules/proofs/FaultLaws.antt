-- At most one fault is said of a source.
use Rattle.std.proofs.Common.{◌≡◌, ◌⊎◌, ◌∙◌, sym, refl, ap, subst, ℕ, List, Option, Some, None, inl, inr, false, true, true≢false}
use Rattle.c_tree.specs.c_syntax.SyntaxTree.{UnitTree}
use Rattle.c_rules.specs.declared.fault.LimitName.{LimitName}
use Rattle.c_rules.specs.declared.fault.LimitName.TheVariants as limit
use Rattle.c_rules.specs.declared.fault.Rule.{Rule}
use Rattle.c_rules.specs.declared.fault.Rule.TheVariants as rules
use Rattle.c_rules.specs.declared.fault.TypeFault.{TypeFault}
use Rattle.c_rules.specs.declared.fault.TypeFault.TheVariants as faults
use Rattle.c_rules.specs.Visits.{BrokenRule}
use Rattle.c_rules.specs.Checked.{Breaks, Holds}
use Rattle.c_rules.specs.Faults.{Says, SaysOf, IsMissing, IsCyclic, IsLarge, rule_fault}
use Rattle.c_rules.specs.Programs.{has_main}
use Rattle.c_rules.specs.Units.{TypedFunction, typed_unit}
use Rattle.c_rules.specs.Whole.{IsPassed}
use Rattle.c_rules.proofs.ChainLaws.{chain_is_one, chain_or_none}
use Rattle.c_rules.proofs.LawLemmas.{one_file, broken_or_typed}

one_break : (found : Option BrokenRule) (a b : BrokenRule) → found ≡ Some a → found ≡ Some b → a ≡ b
one_break found a b one other = let same : Some a ≡ Some b = sym one ∙ other in cc same

-- a fault of a rule of a node
record RuleSaid (unit : UnitTree) (fault : TypeFault) : Type 0 where
  rule : Rule
  at : ℕ
  broken : Breaks unit rule at
  is : fault ≡ rule_fault rule at

-- a fault of the whole source, by its kind
record MainSaid (fs : List TypedFunction) (fault : TypeFault) : Type 0 where
  is : fault ≡ faults.MissingMain 0
  main : has_main fs ≡ false

record BodySaid (fs : List TypedFunction) (fault : TypeFault) : Type 0 where
  at : ℕ
  is : fault ≡ faults.MissingBody at
  says : IsMissing fs at

record ChainSaid (fs : List TypedFunction) (fault : TypeFault) : Type 0 where
  chain : List (List ℕ)
  is : fault ≡ faults.Recursion chain
  says : IsCyclic fs chain

record LimitSaid (fs : List TypedFunction) (fault : TypeFault) : Type 0 where
  which : LimitName
  count : ℕ
  is : fault ≡ faults.Limit which count
  says : IsLarge fs which count

abbrev WholeSaid : List TypedFunction → TypeFault → Type 0
WholeSaid fs fault = (MainSaid fs fault ⊎ BodySaid fs fault) ⊎ (ChainSaid fs fault ⊎ LimitSaid fs fault)

by_kind : (fs : List TypedFunction) (fault : TypeFault) → SaysOf fs fault → ¬ (fault ≡ faults.NoMemory) → WholeSaid fs fault
by_kind fs (faults.Undeclared at) says some = absurd says
by_kind fs (faults.Redeclared at) says some = absurd says
by_kind fs (faults.Mismatch at) says some = absurd says
by_kind fs (faults.NotLvalue at) says some = absurd says
by_kind fs (faults.NotConstant at) says some = absurd says
by_kind fs (faults.LongConstant at) says some = absurd says
by_kind fs (faults.BadPort at) says some = absurd says
by_kind fs (faults.ArgCount at) says some = absurd says
by_kind fs (faults.Misplaced at) says some = absurd says
by_kind fs (faults.MissingMain at) says some = inl (inl (record { is = ap faults.MissingMain says.1; main = says.0 }))
by_kind fs (faults.MissingBody at) says some = inl (inr (record { at = at; is = refl; says = says }))
by_kind fs (faults.Recursion chain) says some = inr (inl (record { chain = chain; is = refl; says = says }))
by_kind fs (faults.Limit which count) says some = inr (inr (record { which = which; count = count; is = refl; says = says }))
by_kind fs faults.NoMemory says some = absurd (some refl)

no_limit : {A : Type 0} {n : ℕ} {o : _} → o ≡ Some n → o ≡ None → A
no_limit {n = n} is none = let same : Some n ≡ None = sym is ∙ none in absurd (cc same)

one_count : (which : LimitName) (n m : ℕ) (o : _) → o ≡ Some n → o ≡ Some m → faults.Limit which n ≡ faults.Limit which m
one_count which n m o a b = let same : Some n ≡ Some m = sym a ∙ b in cc same

one_limit : (fs : List TypedFunction) (which other : LimitName) (n m : ℕ) → IsPassed fs which n → IsPassed fs other m → faults.Limit which n ≡ faults.Limit other m
one_limit fs limit.Functions limit.Functions n m a b = one_count _ n m _ a b
one_limit fs limit.Functions limit.Parameters n m a b = no_limit a b.0
one_limit fs limit.Functions limit.Scalars n m a b = no_limit a b.0
one_limit fs limit.Functions limit.Cases n m a b = no_limit a b.0
one_limit fs limit.Parameters limit.Functions n m a b = no_limit b a.0
one_limit fs limit.Parameters limit.Parameters n m a b = one_count _ n m _ a.1 b.1
one_limit fs limit.Parameters limit.Scalars n m a b = no_limit a.1 b.1
one_limit fs limit.Parameters limit.Cases n m a b = no_limit a.1 b.1
one_limit fs limit.Scalars limit.Functions n m a b = no_limit b a.0
one_limit fs limit.Scalars limit.Parameters n m a b = no_limit b.1 a.1
one_limit fs limit.Scalars limit.Scalars n m a b = one_count _ n m _ a.2 b.2
one_limit fs limit.Scalars limit.Cases n m a b = no_limit a.2 b.2
one_limit fs limit.Cases limit.Functions n m a b = no_limit b a.0
one_limit fs limit.Cases limit.Parameters n m a b = no_limit b.1 a.1
one_limit fs limit.Cases limit.Scalars n m a b = no_limit b.2 a.2
one_limit fs limit.Cases limit.Cases n m a b = one_count _ n m _ a.3 b.3

without_main : {A : Type 0} (fs : List TypedFunction) → has_main fs ≡ false → has_main fs ≡ true → A
without_main fs lacks has = absurd (true≢false (sym has ∙ lacks))

module _ (fs : List TypedFunction) (a b : TypeFault) where
  main_first : MainSaid fs a → WholeSaid fs b → a ≡ b
  main_first one (inl (inl other)) = one.is ∙ sym other.is
  main_first one (inl (inr other)) = without_main fs one.main other.says.main
  main_first one (inr (inl other)) = without_main fs one.main other.says.main
  main_first one (inr (inr other)) = without_main fs one.main other.says.main

  body_next : BodySaid fs a → WholeSaid fs b → a ≡ b
  body_next one (inl (inl other)) = without_main fs other.main one.says.main
  body_next one (inl (inr other)) = let same : Some one.at ≡ Some other.at = sym one.says.first ∙ other.says.first in one.is ∙ cc same ∙ sym other.is
  body_next one (inr (inl other)) = no_limit one.says.first other.says.bodies
  body_next one (inr (inr other)) = no_limit one.says.first other.says.bodies

  chain_next : ChainSaid fs a → WholeSaid fs b → a ≡ b
  chain_next one (inl (inl other)) = without_main fs other.main one.says.main
  chain_next one (inl (inr other)) = no_limit other.says.first one.says.bodies
  chain_next one (inr (inl other)) = one.is ∙ ap faults.Recursion (chain_is_one fs one.chain other.chain one.says.is_chain other.says.is_chain) ∙ sym other.is
  chain_next one (inr (inr other)) = absurd (chain_or_none fs one.chain one.says.is_chain other.says.no_cycle)

  limit_last : LimitSaid fs a → WholeSaid fs b → a ≡ b
  limit_last one (inl (inl other)) = without_main fs other.main one.says.main
  limit_last one (inl (inr other)) = no_limit other.says.first one.says.bodies
  limit_last one (inr (inl other)) = absurd (chain_or_none fs other.chain other.says.is_chain one.says.no_cycle)
  limit_last one (inr (inr other)) = one.is ∙ one_limit fs one.which other.which one.count other.count one.says.passed other.says.passed ∙ sym other.is

  of_whole : WholeSaid fs a → WholeSaid fs b → a ≡ b
  of_whole (inl (inl one)) other = main_first one other
  of_whole (inl (inr one)) other = body_next one other
  of_whole (inr (inl one)) other = chain_next one other
  of_whole (inr (inr one)) other = limit_last one other

said : (unit : UnitTree) (fault : TypeFault) → Says unit fault → ¬ (fault ≡ faults.NoMemory) → RuleSaid unit fault ⊎ Holds unit (λ fs. SaysOf fs fault)
said unit (faults.Undeclared at) says some = inl (record { rule = rules.Undeclared; at = at; broken = says; is = refl })
said unit (faults.Redeclared at) says some = inl (record { rule = rules.Redeclared; at = at; broken = says; is = refl })
said unit (faults.Mismatch at) says some = inl (record { rule = rules.Mismatch; at = at; broken = says; is = refl })
said unit (faults.NotLvalue at) says some = inl (record { rule = rules.NotLvalue; at = at; broken = says; is = refl })
said unit (faults.NotConstant at) says some = inl (record { rule = rules.NotConstant; at = at; broken = says; is = refl })
said unit (faults.LongConstant at) says some = inl (record { rule = rules.LongConstant; at = at; broken = says; is = refl })
said unit (faults.BadPort at) says some = inl (record { rule = rules.BadPort; at = at; broken = says; is = refl })
said unit (faults.ArgCount at) says some = inl (record { rule = rules.ArgCount; at = at; broken = says; is = refl })
said unit (faults.Misplaced at) says some = inl (record { rule = rules.Misplaced; at = at; broken = says; is = refl })
said unit (faults.MissingMain at) says some = inr says
said unit (faults.MissingBody at) says some = inr says
said unit (faults.Recursion chain) says some = inr says
said unit (faults.Limit which count) says some = inr says
said unit faults.NoMemory says some = absurd (some refl)

module _ (unit : UnitTree) (a b : TypeFault) where
  both_rules : RuleSaid unit a → RuleSaid unit b → a ≡ b
  both_rules one other =
      let same : ◌≡◌ {A = BrokenRule} (record { rule = one.rule; at = one.at }) (record { rule = other.rule; at = other.at }) = one_break _ _ _ one.broken other.broken in
      one.is ∙ ap (λ b. rule_fault b.rule b.at) same ∙ sym other.is

  both_whole : ¬ (a ≡ faults.NoMemory) → ¬ (b ≡ faults.NoMemory) → Holds unit (λ fs. SaysOf fs a) → Holds unit (λ fs. SaysOf fs b) → a ≡ b
  both_whole p q one other =
      let here : SaysOf one.file.functions b = subst (λ f. SaysOf f.functions b) (one_file (typed_unit unit) other.file one.file other.typed one.typed) other.holds in
      of_whole one.file.functions a b (by_kind _ a one.holds p) (by_kind _ b here q)

  pub one_fault : Says unit a → Says unit b → ¬ (a ≡ faults.NoMemory) → ¬ (b ≡ faults.NoMemory) → a ≡ b
  one_fault says also p q =
      elim (said unit a says p) [
        | inl one ↦ elim (said unit b also q) [
          | inl other ↦ both_rules one other
          | inr other ↦ broken_or_typed unit one.rule one.at other.file one.broken other.typed
        ]
        | inr one ↦ elim (said unit b also q) [
          | inl other ↦ broken_or_typed unit other.rule other.at one.file other.broken one.typed
          | inr other ↦ both_whole p q one other
        ]
      ]
