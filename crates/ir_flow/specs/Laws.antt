-- Laws of data flow that passes use.
use Rattle.std.specs.Prelude.{◌≡◌, ◌≢◌, ◌↔◌, ℕ, ◌<◌, ◌⊎◌, Bool, true, false, List, [], ◌∷◌, length, slice_get, Some, None}
use Rattle.ir_tree.specs.declared.function.Function.{Function}
use Rattle.ir_tree.specs.Flow.{Among, Equations, IsGreatest, IsMarked, KeepsInclusion, edges, Path, Reachable, Dominates, Available, defined_in, holds, parameters, locals, room}
use Rattle.ir_flow.specs.Dominating.{Dominance, AreDominators}

abbrev pub OneGreatest : Type 0
OneGreatest = (e : Equations) (rows others : ℕ → ℕ → Bool) → IsGreatest e rows → IsGreatest e others → (b x : ℕ) → rows b x ≡ others b x

-- a parameter, or defined in one of these blocks
abbrev pub Passed : Function → ℕ → List ℕ → Type 0
Passed f x [] = holds (parameters f) x ≡ true
Passed f x (p ∷ ps) = (defined_in (slice_get f.blocks p) x ≡ true) ⊎ Passed f x ps

-- what is available was passed on every path from the entry
abbrev pub AvailableIsPassed : Type 0
AvailableIsPassed = (f : Function) (b x : ℕ) → Available f b x → (ps : List ℕ) → Path f ps b → Passed f x ps

-- all locals are available in a block that isn't reached
abbrev pub AllAreAvailable : Type 0
AllAreAvailable = (f : Function) (t : Dominance) → AreDominators f t → (b x : ℕ) → b < length f.blocks → x < room (locals f) → (Reachable f b → ⊥) → Available f b x

-- one block alone defines a local, which is no parameter
pub record IsDefinedIn (f : Function) (d x : ℕ) : Type 0 where
  pub here : defined_in (slice_get f.blocks d) x ≡ true
  pub only : (c : ℕ) → defined_in (slice_get f.blocks c) x ≡ true → c ≡ d
  pub no_parameter : holds (parameters f) x ≡ false

-- a local is available exactly where its block dominates, and is another, and in blocks that aren't reached
abbrev pub AvailableByDominance : Type 0
AvailableByDominance =
    (f : Function) (t : Dominance) → AreDominators f t → (d b x : ℕ) → d < length f.blocks → b < length f.blocks → IsDefinedIn f d x
    → Available f b x ↔ (Reachable f b → Dominates f d b × (d ≢ b))

-- ---- marks and paths

-- the greatest solution has exactly the marks of all solutions
abbrev pub GreatestIsMarked : Type 0
GreatestIsMarked = (e : Equations) (rows : ℕ → ℕ → Bool) → IsGreatest e rows → (b x : ℕ) → (rows b x ≡ true) ↔ IsMarked e b x

-- these blocks lead to a block, the last one first: from one whose row is given, over blocks that are met
abbrev pub LeadsFrom : Equations → (ℕ → Bool) → List ℕ → ℕ → Type 0
LeadsFrom e row [] b = e.fixed b ≡ Some row
LeadsFrom e row (p ∷ ps) b = (p < e.blocks) × (e.fixed b ≡ None) × Among p (e.edges b) × LeadsFrom e row ps p

-- what holds behind these blocks, where the row holds at the start of the first of them: each block's transfer in turn
abbrev pub carried : Equations → (ℕ → Bool) → List ℕ → ℕ → Bool
carried e row [] = row
carried e row (p ∷ ps) = e.out p (carried e row ps)

-- a mark holds behind every path: the greatest solution is below the meet over all paths (Kam and Ullman 1977)
abbrev pub MarksHoldOnPaths : Type 0
MarksHoldOnPaths = (e : Equations) → KeepsInclusion e → (b x : ℕ) → IsMarked e b x → (row : ℕ → Bool) (ps : List ℕ) → LeadsFrom e row ps b → carried e row ps x ≡ true

-- equations over the blocks of a function, of which the entry alone has a row that is given
pub record AreOver (f : Function) (e : Equations) (row : ℕ → Bool) : Type 0 where
  pub blocks : e.blocks ≡ length f.blocks
  pub edges : (b : ℕ) → e.edges b ≡ edges f b
  pub entry : e.fixed 0 ≡ Some row
  pub met : (b : ℕ) → b ≢ 0 → e.fixed b ≡ None

-- of a function whose entry no edge leads to: a mark holds behind every path from the entry
abbrev pub MarksHoldFromEntry : Type 0
MarksHoldFromEntry =
    (f : Function) (e : Equations) (row : ℕ → Bool) → AreOver f e row → KeepsInclusion e → ((p : ℕ) → Among p (edges f 0) → ⊥)
    → (b x : ℕ) → IsMarked e b x → (ps : List ℕ) → Path f ps b → carried e row ps x ≡ true
