-- Modules that can't be linked have one clash, and others have none.
use Rattle.std.proofs.Common.{◌≡◌, ◌∙◌, ℕ, List, Option, Some, None, refl, sym, ap}
use Rattle.std.proofs.lemmas.Cmp.{nat_list_cmp_total}
use Rattle.std.proofs.lemmas.Map.Lookups.{exact_bytes}
use Rattle.std.specs.Cmp.Lexicographic.{slice_cmp}
use Rattle.std.specs.Ordering.{nat_cmp, ordering_reverse}
use Rattle.std.specs.declared.cmp.Ordering.{Ordering}
use Rattle.std.specs.declared.cmp.Ordering.TheVariants.{Less, Equal, Greater}
use Rattle.ir_tree.specs.declared.module.Module.{Module}
use Rattle.symbol_resolve.specs.Clashes.{Agree, Clashes, Differ, IsDuplicate, IsLeast, IsOfTwoKinds, NoClash}
use Rattle.symbol_resolve.specs.Mentions.{is_function, is_strong, is_variable, mentions, modules_with}
use Rattle.symbol_resolve.specs.Prevailing.{first, second}
use Rattle.symbol_resolve.specs.declared.clash.Clash.{Clash}
use Rattle.symbol_resolve.specs.declared.clash.Clash.TheVariants as clash
use Rattle.ir_tree.specs.declared.target_line.TargetLine.{TargetLine}
use Rattle.ir_tree.specs.declared.target_line.TargetLine.TheVariants.{Datalayout, Triple}

-- ---- the least name is one

pub one_least : (holds : List ℕ → Type 0) (a b : List ℕ) → IsLeast holds a → IsLeast holds b → a ≡ b
one_least holds a b x y = by (slice_cmp nat_cmp a b) refl
  where
    by : (o : Ordering) → slice_cmp nat_cmp a b ≡ o → a ≡ b
    by Less h = absurd (y.least a x.one (nat_list_cmp_total.antisymm b a ∙ ap ordering_reverse h))
    by Equal h = exact_bytes a b h
    by Greater h = absurd (x.least b y.one h)

-- ---- lines

agree_or_differ : (line : TargetLine) (ms : List Module) (a b : ℕ) → Agree line ms → Differ line ms a b → ⊥
agree_or_differ line ms a b same h = let both : None ≡ Some b = sym same ∙ h.other in cc

one_pair : {X : Type 0} (o p : Option X) (a b : X) → o ≡ Some a → p ≡ Some b → o ≡ p → a ≡ b
one_pair o p a b h g same = let both : Some a ≡ Some b = sym h ∙ same ∙ g in cc

one_target : (line : TargetLine) (ms : List Module) (a b c d : ℕ) → Differ line ms a b → Differ line ms c d → clash.TargetClash line a b ≡ clash.TargetClash line c d
one_target line ms a b c d h g =
    let both : Some a ≡ Some c = sym h.given ∙ g.given in
    let others : Some b ≡ Some d = sym h.other ∙ g.other in
    cc

-- ---- clashes

pub no_clash : (ms : List Module) (c : Clash) → NoClash ms → Clashes ms c → ⊥
no_clash ms (clash.TargetClash Datalayout a b) none h = agree_or_differ Datalayout ms a b none.target.0 h
no_clash ms (clash.TargetClash Triple a b) none h = agree_or_differ Triple ms a b none.target.1 h.1
no_clash ms (clash.DuplicateSymbol name a b) none h = none.duplicate name h.1.one
no_clash ms (clash.KindClash name f v) none h = none.kind name h.2.one

module _ (ms : List Module) where
  pub one_clash : (c d : Clash) → Clashes ms c → Clashes ms d → c ≡ d
  one_clash (clash.TargetClash Datalayout a b) (clash.TargetClash Datalayout c d) h g = one_target Datalayout ms a b c d h g
  one_clash (clash.TargetClash Datalayout a b) (clash.TargetClash Triple c d) h g = absurd (agree_or_differ Datalayout ms a b g.0 h)
  one_clash (clash.TargetClash Datalayout a b) (clash.DuplicateSymbol name c d) h g = absurd (agree_or_differ Datalayout ms a b g.0.0 h)
  one_clash (clash.TargetClash Datalayout a b) (clash.KindClash name c d) h g = absurd (agree_or_differ Datalayout ms a b g.0.0 h)
  one_clash (clash.TargetClash Triple a b) (clash.TargetClash Datalayout c d) h g = absurd (agree_or_differ Datalayout ms c d h.0 g)
  one_clash (clash.TargetClash Triple a b) (clash.TargetClash Triple c d) h g = one_target Triple ms a b c d h.1 g.1
  one_clash (clash.TargetClash Triple a b) (clash.DuplicateSymbol name c d) h g = absurd (agree_or_differ Triple ms a b g.0.1 h.1)
  one_clash (clash.TargetClash Triple a b) (clash.KindClash name c d) h g = absurd (agree_or_differ Triple ms a b g.0.1 h.1)
  one_clash (clash.DuplicateSymbol name a b) (clash.TargetClash Datalayout c d) h g = absurd (agree_or_differ Datalayout ms c d h.0.0 g)
  one_clash (clash.DuplicateSymbol name a b) (clash.TargetClash Triple c d) h g = absurd (agree_or_differ Triple ms c d h.0.1 g.1)
  one_clash (clash.DuplicateSymbol name a b) (clash.DuplicateSymbol other c d) h g =
      let same : name ≡ other = one_least (IsDuplicate (mentions ms)) name other h.1 g.1 in
      let firsts : a ≡ c = one_pair _ _ a c h.2 g.2 (ap (λ (n : List ℕ). first (modules_with is_strong (mentions ms) n)) same) in
      let seconds : b ≡ d = one_pair _ _ b d h.3 g.3 (ap (λ (n : List ℕ). second (modules_with is_strong (mentions ms) n)) same) in
      λ i. clash.DuplicateSymbol (same i) (firsts i) (seconds i)
  one_clash (clash.DuplicateSymbol name a b) (clash.KindClash other c d) h g = absurd (g.1 name h.1.one)
  one_clash (clash.KindClash name a b) (clash.TargetClash Datalayout c d) h g = absurd (agree_or_differ Datalayout ms c d h.0.0 g)
  one_clash (clash.KindClash name a b) (clash.TargetClash Triple c d) h g = absurd (agree_or_differ Triple ms c d h.0.1 g.1)
  one_clash (clash.KindClash name a b) (clash.DuplicateSymbol other c d) h g = absurd (h.1 other g.1.one)
  one_clash (clash.KindClash name a b) (clash.KindClash other c d) h g =
      let same : name ≡ other = one_least (IsOfTwoKinds (mentions ms)) name other h.2 g.2 in
      let functions : a ≡ c = one_pair _ _ a c h.3 g.3 (ap (λ (n : List ℕ). first (modules_with is_function (mentions ms) n)) same) in
      let variables : b ≡ d = one_pair _ _ b d h.4 g.4 (ap (λ (n : List ℕ). first (modules_with is_variable (mentions ms) n)) same) in
      λ i. clash.KindClash (same i) (functions i) (variables i)
