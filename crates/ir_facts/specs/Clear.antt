-- Functions in which each candidate holds wherever its local is used, as is seen block by block, whether blocks are reached or not: each
-- block reads what it defines behind the definition alone; and a local whose candidate an unreached block defines, another one than
-- the local's own, is read in its own block, or where that stands above and doesn't stand above the candidate's.
use Rattle.std.specs.Prelude.{◌≡◌, ℕ, suc, Bool, true, false, not, ◌&&◌, ◌||◌, nat_eq, if◌then◌else◌, List, [], ◌∷◌, ◌++◌, Option, Some, None}
use Rattle.ir_tree.specs.Flow.{Among, edges}
use Rattle.ir_tree.specs.declared.block.Block.{Block}
use Rattle.ir_tree.specs.declared.function.Function.{Function}
use Rattle.ir_tree.specs.declared.instr.Incoming.{Incoming}
use Rattle.ir_tree.specs.declared.instr.Line.{Line}
use Rattle.ir_tree.specs.declared.instr.Phi.{Phi}
use Rattle.ir_tree.specs.declared.operand.Operand.{Operand}
use Rattle.ir_meaning.specs.Facts.{Facts, is_phi}
use Rattle.fact_sources.specs.Places.{AreNumbered, ArePlaced}
use Rattle.fact_sources.specs.Apart.{defined, is_listed}
use Rattle.ir_facts.specs.Candidates.{block_candidates, phi_candidates}
use Rattle.fact_sources.specs.Membership.{beside, is_member}
use Rattle.fact_sources.specs.Naming.{end_names, instr_names}

-- the locals of the facts whose operand is a local of the set, and whether there are any
abbrev pub keys_among : (ℕ → Bool) → Facts → List ℕ
keys_among among [] = []
keys_among among ((x, v) ∷ fs) = if is_member among v then x ∷ keys_among among fs else keys_among among fs

abbrev pub any_among : (ℕ → Bool) → Facts → Bool
any_among among [] = false
any_among among ((x, v) ∷ fs) = is_member among v || any_among among fs

-- the locals whose candidate is of the set, and another block defines it
unfoldable pub inner_keys : (ℕ → Bool) → Block → List ℕ
inner_keys among b = keys_among (beside among (defined b)) (block_candidates b)

abbrev pub all_inner : (ℕ → Bool) → List Block → List ℕ
all_inner among [] = []
all_inner among (b ∷ bs) = inner_keys among b ++ all_inner among bs

-- ---- where they may be read

-- the block at the place p stands above this one, or it isn't known which this one is
abbrev pub stands_over : (ℕ → ℕ → Bool) → ℕ → Option ℕ → Bool
stands_over above p None = true
stands_over above p (Some q) = above p q

-- it stands above the block of a local
abbrev pub is_over : (ℕ → Option ℕ) → (ℕ → ℕ → Bool) → ℕ → ℕ → Bool
is_over at above p x = stands_over above p (at x)

-- the locals of the first block, the place of which is p, whose candidate a block defines that it stands above, and of the others
abbrev pub all_over : (ℕ → Option ℕ) → (ℕ → ℕ → Bool) → ℕ → List Block → List ℕ
all_over at above p [] = []
all_over at above p (b ∷ bs) = keys_among (is_over at above p) (block_candidates b) ++ all_over at above (suc p) bs

-- a local that is defined at one place isn't to be read in the block at another: of the inner locals all, but those that aren't over
-- their candidates in blocks that their own stands above
abbrev pub is_barred : Bool → Bool → Option ℕ → (ℕ → ℕ → Bool) → ℕ → Bool
is_barred false over home above p = false
is_barred true over None above p = true
is_barred true over (Some home) above p = not (nat_eq home p || (not over && above home p))

abbrev pub barred : (ℕ → Bool) → (ℕ → Bool) → (ℕ → Option ℕ) → (ℕ → ℕ → Bool) → ℕ → ℕ → Bool
barred inner over at above p x = is_barred (inner x) (over x) (at x) above p

-- what a phi takes is read at the end of the block from which it comes
abbrev pub is_taken : (ℕ → ℕ → Bool) → Option ℕ → Operand → Bool
is_taken bars None v = true
is_taken bars (Some p) v = is_member (bars p) v

abbrev pub entries_barred : (ℕ → ℕ → Bool) → (ℕ → Option ℕ) → List Incoming → Bool
entries_barred bars place [] = false
entries_barred bars place (e ∷ es) = is_taken bars (place e.from) e.value || entries_barred bars place es

abbrev pub phis_barred : (ℕ → ℕ → Bool) → (ℕ → Option ℕ) → List Phi → Bool
phis_barred bars place [] = false
phis_barred bars place (p ∷ ps) = entries_barred bars place p.incoming || phis_barred bars place ps

-- ---- blocks that are clear

-- with what an instruction gives a value
abbrev pub given_by : Option ℕ → ℕ → Bool
given_by None x = false
given_by (Some y) x = nat_eq x y

abbrev pub with_given : (ℕ → Bool) → Option ℕ → ℕ → Bool
with_given front o x = front x || given_by o x

-- lines that read none that is barred, and the block's own behind their definitions alone
abbrev pub lines_clear : (ℕ → Bool) → (ℕ → Bool) → (ℕ → Bool) → List Line → Bool
lines_clear bar own front [] = true
lines_clear bar own front (l ∷ ls) = not (instr_names bar l.instr || instr_names (beside own front) l.instr) && lines_clear bar own (with_given front l.local) ls

-- a block that reads none that is barred, and whose phis have no candidate that the block defines
unfoldable pub block_clear : (ℕ → ℕ → Bool) → (ℕ → Option ℕ) → ℕ → Block → Bool
block_clear bars place p b =
    not (any_among (defined b) (phi_candidates b.phis b.phis))
    && (not (phis_barred bars place b.phis || end_names (bars p) b.end) && lines_clear (bars p) (defined b) (λ x. is_phi x b.phis) b.lines)

abbrev pub blocks_clear : (ℕ → ℕ → Bool) → (ℕ → Option ℕ) → ℕ → List Block → Bool
blocks_clear bars place p [] = true
blocks_clear bars place p (b ∷ bs) = block_clear bars place p b && blocks_clear bars place (suc p) bs

-- blocks stand above one another as in dominance
abbrev pub AreAbove : Function → (ℕ → ℕ → Bool) → Type 0
AreAbove f above = (d p q : ℕ) → above d p ≡ true → (d ≡ p → ⊥) → (q ≡ 0 → ⊥) → Among q (edges f p) → above d q ≡ true

-- each candidate of the set is clear of its local's uses
pub record IsClear (among : ℕ → Bool) (f : Function) : Type 0 where
  pub above : ℕ → ℕ → Bool
  pub passed : AreAbove f above
  -- where locals are defined, and the places of blocks by their numbers
  pub at : ℕ → Option ℕ
  pub placed : ArePlaced f.blocks at
  pub place : ℕ → Option ℕ
  pub numbered : AreNumbered f.blocks place
  pub clear : blocks_clear (barred (λ x. is_listed x (all_inner among f.blocks)) (λ x. is_listed x (all_over at above 0 f.blocks)) at above) place 0 f.blocks ≡ true
