-- What is told of the least name is a clash of the modules.
use Rattle.std.proofs.Common.{false, true, ◌≡◌, ◌∙◌, ◌⊎◌, inl, inr, ℕ, sym, ap, subst, refl, List, [], ◌∷◌, map, Option, Some, None, option_map, IsSome, Result, Ok, Err}
use Rattle.std.specs.Result.{IsErrAnd}
use Rattle.ir_tree.specs.declared.module.Module.{Module}
use Rattle.symbol_resolve.specs.Clashes.{Clashes, IsOfTwoKinds, NoDuplicate, OneTarget}
use Rattle.symbol_resolve.specs.Listed.{ChecksNames, ChecksTargets, Entries, Conflict, Tabled, both, conflict, facts_of, least_from, pairs, settled, told}
use Rattle.symbol_resolve.specs.Mentions.{Mention, is_function, is_strong, is_variable, mentions, modules_with, names_of}
use Rattle.symbol_resolve.specs.Prevailing.{first, second}
use Rattle.symbol_resolve.specs.Resolved.{Resolves, Symbols}
use Rattle.ir_tree.specs.Once.{once}
use Rattle.symbol_resolve.specs.declared.clash.Clash.{Clash}
use Rattle.ir_tree.specs.declared.failure.Failure.{Failure}
use Rattle.ir_tree.specs.declared.failure.Failure.TheVariants as error
use Rattle.symbol_resolve.specs.declared.facts.Facts.{Facts}
use Rattle.symbol_resolve.specs.declared.least.LinkRule.{LinkRule}
use Rattle.symbol_resolve.specs.declared.least.LinkRule.TheVariants as rule
use Rattle.symbol_resolve.proofs.Found.{Among, AtMost, is_least, is_none}
use Rattle.symbol_resolve.proofs.Tabling.{pairs_tabled, settled_tabled}

-- ---- two modules

none_some : {X : Type 0} {x : X} → None ≡ Some x → ⊥
none_some h = cc

no_some : false ≡ true → ⊥
no_some h = cc

both_are : (a b : Option ℕ) (p : ℕ × ℕ) → both a b ≡ Some p → (a ≡ Some p.0) × (b ≡ Some p.1)
both_are (Some a) (Some b) p h = let same : (a, b) ≡ p = inside h in (ap (λ (q : ℕ × ℕ). Some q.0) same, ap (λ (q : ℕ × ℕ). Some q.1) same)
  where
    inside : Some (a, b) ≡ Some p → (a, b) ≡ p
    inside e = cc
both_are (Some a) None p h = absurd (none_some h)
both_are None b p h = absurd (none_some h)

some_there : (o : Option ℕ) (k : ℕ) → o ≡ Some k → IsSome o
some_there (Some x) k h = refl
some_there None k h = absurd (none_some h)

twice : (w : List ℕ) → IsSome (second w) → (p : ℕ × ℕ) × (both (first w) (second w) ≡ Some p)
twice [] h = absurd (no_some h)
twice (k ∷ []) h = absurd (no_some h)
twice (k ∷ l ∷ w) h = ((k, l), refl)

both_there : (a b : Option ℕ) → IsSome a → IsSome b → (p : ℕ × ℕ) × (both a b ≡ Some p)
both_there (Some a) (Some b) h g = ((a, b), refl)
both_there (Some a) None h g = absurd (no_some g)
both_there None b h g = absurd (no_some h)

-- ---- names

among_facts : (f : List ℕ → Facts) (names : List (List ℕ)) (n : List ℕ) (v : Facts) → Among (n, v) (map (λ name. (name, f name)) names) → v ≡ f n
among_facts f [] n v h = absurd h
among_facts f (m ∷ ms) n v (inl e) = ap (λ (x : List ℕ × Facts). x.1) e ∙ ap f (sym (ap (λ (x : List ℕ × Facts). x.0) e))
among_facts f (m ∷ ms) n v (inr h) = among_facts f ms n v h

abbrev IsFoundOf : LinkRule → List Mention → Conflict → Type 0
IsFoundOf rule ms r = (conflict rule (facts_of ms r.0) ≡ Some r.1) × ((n : List ℕ) (p : ℕ × ℕ) → conflict rule (facts_of ms n) ≡ Some p → AtMost r.0 n)

found_of : (rule : LinkRule) (ms : List Mention) (es : Entries) (r : Conflict) → Tabled ms es → least_from rule None (pairs es) ≡ Some r → IsFoundOf rule ms r
found_of rule ms es r t h = (here (is_least rule None es r h).0, λ n p c. (is_least rule None es r h).1.0 n p (ap (conflict rule) (t.facts n) ∙ c))
  where
    here : ((f : Facts) × Among (r.0, f) (pairs es) × (conflict rule f ≡ Some r.1)) ⊎ (None ≡ Some r) → conflict rule (facts_of ms r.0) ≡ Some r.1
    here (inl (f, a, c)) = ap (conflict rule) (sym (among_facts (facts_of ms) (once (names_of ms)) r.0 f (subst (Among (r.0, f)) (pairs_tabled ms es t) a))) ∙ c
    here (inr h) = absurd (none_some h)

none_of : (rule : LinkRule) (ms : List Mention) (es : Entries) → Tabled ms es → least_from rule None (pairs es) ≡ None → (n : List ℕ) (p : ℕ × ℕ) → conflict rule (facts_of ms n) ≡ Some p → ⊥
none_of rule ms es t h n p c = (is_none rule None es h).1 n p (ap (conflict rule) (t.facts n) ∙ c)

-- ---- the modules of a link

module _ (ms : List Module) (es : Entries) (t : Tabled (mentions ms) es) where
  pub no_duplicate : least_from rule.OneDefinition None (pairs es) ≡ None → NoDuplicate ms
  no_duplicate h name d = let pair = twice (modules_with is_strong (mentions ms) name) d in none_of rule.OneDefinition (mentions ms) es t h name pair.0 pair.1

  one_kind : least_from rule.OneKind None (pairs es) ≡ None → (name : List ℕ) → IsOfTwoKinds (mentions ms) name → ⊥
  one_kind h name d =
      let pair = both_there (first (modules_with is_function (mentions ms) name)) (first (modules_with is_variable (mentions ms) name)) d.0 d.1 in
      none_of rule.OneKind (mentions ms) es t h name pair.0 pair.1

  duplicate : OneTarget ms → (r : Conflict) → IsFoundOf rule.OneDefinition (mentions ms) r → Clashes ms (told rule.OneDefinition r)
  duplicate target r f =
      let parts = both_are (first (modules_with is_strong (mentions ms) r.0)) (second (modules_with is_strong (mentions ms) r.0)) r.1 f.0 in (
        target,
        record {
          one = some_there (second (modules_with is_strong (mentions ms) r.0)) r.1.1 parts.1;
          least = λ other d. let pair = twice (modules_with is_strong (mentions ms) other) d in f.1 other pair.0 pair.1;
        },
        parts.0,
        parts.1,
      )

  two_kinds : OneTarget ms → NoDuplicate ms → (r : Conflict) → IsFoundOf rule.OneKind (mentions ms) r → Clashes ms (told rule.OneKind r)
  two_kinds target once r f =
      let parts = both_are (first (modules_with is_function (mentions ms) r.0)) (first (modules_with is_variable (mentions ms) r.0)) r.1 f.0 in (
        target,
        once,
        record {
          one = (some_there (first (modules_with is_function (mentions ms) r.0)) r.1.0 parts.0, some_there (first (modules_with is_variable (mentions ms) r.0)) r.1.1 parts.1);
          least = λ other d.
              let pair = both_there (first (modules_with is_function (mentions ms) other)) (first (modules_with is_variable (mentions ms) other)) d.0 d.1 in
              f.1 other pair.0 pair.1;
        },
        parts.0,
        parts.1,
      )

  same_told : (c : Clash) (told_as : Conflict → Clash) (o : Option Conflict) → option_map told_as o ≡ Some c → ((r : Conflict) → o ≡ Some r → Clashes ms (told_as r)) → Clashes ms c
  same_told c told_as None h clashes = absurd (none_some h)
  same_told c told_as (Some r) h clashes = subst (Clashes ms) (inside h) (clashes r refl)
    where
      inside : Some (told_as r) ≡ Some c → told_as r ≡ c
      inside e = cc

  -- what each check refuses
  pub definitions_refused : OneTarget ms → (e : Failure Clash) → ChecksNames rule.OneDefinition es (Err e) → Resolves ms (Err e)
  definitions_refused target (error.Fault c) h =
      same_told c (told rule.OneDefinition) (least_from rule.OneDefinition None (pairs es)) h
      (λ r is. duplicate target r (found_of rule.OneDefinition (mentions ms) es r t is))
  definitions_refused target error.NoMemory h = tt

  pub kinds_refused : OneTarget ms → NoDuplicate ms → (e : Failure Clash) → ChecksNames rule.OneKind es (Err e) → Resolves ms (Err e)
  kinds_refused target once (error.Fault c) h =
      same_told c (told rule.OneKind) (least_from rule.OneKind None (pairs es)) h
      (λ r is. two_kinds target once r (found_of rule.OneKind (mentions ms) es r t is))
  kinds_refused target once error.NoMemory h = tt

  -- and what they all pass
  pub all_passed : OneTarget ms → least_from rule.OneDefinition None (pairs es) ≡ None → least_from rule.OneKind None (pairs es) ≡ None → Resolves ms (Ok (settled es))
  all_passed target once kinds = (record { target = target; duplicate = no_duplicate once; kind = one_kind kinds }, settled_tabled (mentions ms) es t)

pub targets_refused : (ms : List Module) (e : Failure Clash) → ChecksTargets ms (Err e) → Resolves ms (Err e)
targets_refused ms (error.Fault c) h = h
targets_refused ms error.NoMemory h = tt

-- an error that is handed on
pub passed_on : (ms : List Module) (r : Result Symbols (Failure Clash)) (e : Failure Clash) → IsErrAnd r (λ given. given ≡ e) → Resolves ms (Err e) → Resolves ms r
passed_on ms (Ok table) e is h = absurd is
passed_on ms (Err given) e is h = subst (λ (y : Failure Clash). Resolves ms (Err y)) (sym is) h
