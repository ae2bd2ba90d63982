-- The tables of where locals may be read, and what they say.
use Rattle.std.specs.Prelude.{◌≡◌, ℕ, Bool, nat_eq}
use Rattle.std.specs.BTreeMap.{get}
use Rattle.std.specs.HashSet.{contains}
use Rattle.std.specs.Ordering.{nat_cmp}
use Rattle.ir_tree.specs.declared.function.Function.{Function}
use Rattle.ir_flow.specs.Dominating.{dominance}
use Rattle.fact_sources.specs.Above.{StandsAbove, is_above}
use Rattle.fact_sources.specs.Places.{AreNumbered, ArePlaced}
use Rattle.fact_sources.specs.Apart.{is_listed}
use Rattle.ir_facts.specs.Clear.{all_inner, all_over, barred}
use Rattle.ir_facts.specs.declared.scopes.Scopes.{Scopes}

-- what isn't to be read in the block at a place
abbrev pub bars : Scopes → ℕ → ℕ → Bool
bars s = barred (contains nat_eq s.inner) (contains nat_eq s.over) (get nat_cmp s.places) (is_above (dominance s.above))

pub record AreScopes (among : ℕ → Bool) (f : Function) (s : Scopes) : Type 0 where
  pub inner : (x : ℕ) → contains nat_eq s.inner x ≡ is_listed x (all_inner among f.blocks)
  pub over : (x : ℕ) → contains nat_eq s.over x ≡ is_listed x (all_over (get nat_cmp s.places) (is_above (dominance s.above)) 0 f.blocks)
  pub placed : ArePlaced f.blocks (get nat_cmp s.places)
  pub numbered : AreNumbered f.blocks (get nat_cmp s.numbers)
  pub above : StandsAbove f (dominance s.above)
