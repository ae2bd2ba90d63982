-- The first broken rule of an item, from what is known of the rules one by one.
use Rattle.std.proofs.Common.{◌<◌, arith}
use Rattle.std.specs.Prelude.{Some, None}
use Rattle.ir_tree.specs.declared.function.Function.{Function}
use Rattle.ir_tree.specs.declared.rule.Rule.{Rule}
use Rattle.ir_tree.specs.declared.rule.Rule.TheVariants.{TypeMismatch, NotAvailable, PhiEdges, PhiPlace, EntryBranch, Index, Cast, CaseTwice}
use Rattle.ir_tree.specs.Items.{Item}
use Rattle.ir_tree.specs.Rules.{Keeps}
use Rattle.ir_verify.specs.Faults.{number, FirstBroken}

module _ (f : Function) (item : Item) where
  pub first_1 : (Keeps f TypeMismatch item → ⊥) → FirstBroken f item (Some TypeMismatch)
  first_1 broken = (broken, below)
    where
      below : (other : Rule) → number other < 1 → Keeps f other item
      below TypeMismatch l = absurd (omega arith)
      below NotAvailable l = absurd (omega arith)
      below PhiEdges l = absurd (omega arith)
      below PhiPlace l = absurd (omega arith)
      below EntryBranch l = absurd (omega arith)
      below Index l = absurd (omega arith)
      below Cast l = absurd (omega arith)
      below CaseTwice l = absurd (omega arith)

  pub first_2 : Keeps f TypeMismatch item → (Keeps f NotAvailable item → ⊥) → FirstBroken f item (Some NotAvailable)
  first_2 k1 broken = (broken, below)
    where
      below : (other : Rule) → number other < 2 → Keeps f other item
      below TypeMismatch l = k1
      below NotAvailable l = absurd (omega arith)
      below PhiEdges l = absurd (omega arith)
      below PhiPlace l = absurd (omega arith)
      below EntryBranch l = absurd (omega arith)
      below Index l = absurd (omega arith)
      below Cast l = absurd (omega arith)
      below CaseTwice l = absurd (omega arith)

  pub first_3 : Keeps f TypeMismatch item → Keeps f NotAvailable item → (Keeps f PhiEdges item → ⊥) → FirstBroken f item (Some PhiEdges)
  first_3 k1 k2 broken = (broken, below)
    where
      below : (other : Rule) → number other < 3 → Keeps f other item
      below TypeMismatch l = k1
      below NotAvailable l = k2
      below PhiEdges l = absurd (omega arith)
      below PhiPlace l = absurd (omega arith)
      below EntryBranch l = absurd (omega arith)
      below Index l = absurd (omega arith)
      below Cast l = absurd (omega arith)
      below CaseTwice l = absurd (omega arith)

  pub first_4 : Keeps f TypeMismatch item → Keeps f NotAvailable item → Keeps f PhiEdges item → (Keeps f PhiPlace item → ⊥) → FirstBroken f item (Some PhiPlace)
  first_4 k1 k2 k3 broken = (broken, below)
    where
      below : (other : Rule) → number other < 4 → Keeps f other item
      below TypeMismatch l = k1
      below NotAvailable l = k2
      below PhiEdges l = k3
      below PhiPlace l = absurd (omega arith)
      below EntryBranch l = absurd (omega arith)
      below Index l = absurd (omega arith)
      below Cast l = absurd (omega arith)
      below CaseTwice l = absurd (omega arith)

  pub first_5 : Keeps f TypeMismatch item → Keeps f NotAvailable item → Keeps f PhiEdges item → Keeps f PhiPlace item → (Keeps f EntryBranch item → ⊥) → FirstBroken f item (Some EntryBranch)
  first_5 k1 k2 k3 k4 broken = (broken, below)
    where
      below : (other : Rule) → number other < 5 → Keeps f other item
      below TypeMismatch l = k1
      below NotAvailable l = k2
      below PhiEdges l = k3
      below PhiPlace l = k4
      below EntryBranch l = absurd (omega arith)
      below Index l = absurd (omega arith)
      below Cast l = absurd (omega arith)
      below CaseTwice l = absurd (omega arith)

  pub first_6 : Keeps f TypeMismatch item → Keeps f NotAvailable item → Keeps f PhiEdges item → Keeps f PhiPlace item → Keeps f EntryBranch item → (Keeps f Index item → ⊥) → FirstBroken f item (Some Index)
  first_6 k1 k2 k3 k4 k5 broken = (broken, below)
    where
      below : (other : Rule) → number other < 6 → Keeps f other item
      below TypeMismatch l = k1
      below NotAvailable l = k2
      below PhiEdges l = k3
      below PhiPlace l = k4
      below EntryBranch l = k5
      below Index l = absurd (omega arith)
      below Cast l = absurd (omega arith)
      below CaseTwice l = absurd (omega arith)

  pub first_7 : Keeps f TypeMismatch item → Keeps f NotAvailable item → Keeps f PhiEdges item → Keeps f PhiPlace item → Keeps f EntryBranch item → Keeps f Index item → (Keeps f Cast item → ⊥) → FirstBroken f item (Some Cast)
  first_7 k1 k2 k3 k4 k5 k6 broken = (broken, below)
    where
      below : (other : Rule) → number other < 7 → Keeps f other item
      below TypeMismatch l = k1
      below NotAvailable l = k2
      below PhiEdges l = k3
      below PhiPlace l = k4
      below EntryBranch l = k5
      below Index l = k6
      below Cast l = absurd (omega arith)
      below CaseTwice l = absurd (omega arith)

  pub first_8 : Keeps f TypeMismatch item → Keeps f NotAvailable item → Keeps f PhiEdges item → Keeps f PhiPlace item → Keeps f EntryBranch item → Keeps f Index item → Keeps f Cast item → (Keeps f CaseTwice item → ⊥) → FirstBroken f item (Some CaseTwice)
  first_8 k1 k2 k3 k4 k5 k6 k7 broken = (broken, below)
    where
      below : (other : Rule) → number other < 8 → Keeps f other item
      below TypeMismatch l = k1
      below NotAvailable l = k2
      below PhiEdges l = k3
      below PhiPlace l = k4
      below EntryBranch l = k5
      below Index l = k6
      below Cast l = k7
      below CaseTwice l = absurd (omega arith)

  pub all_kept : Keeps f TypeMismatch item → Keeps f NotAvailable item → Keeps f PhiEdges item → Keeps f PhiPlace item → Keeps f EntryBranch item → Keeps f Index item → Keeps f Cast item → Keeps f CaseTwice item → FirstBroken f item None
  all_kept k1 k2 k3 k4 k5 k6 k7 k8 TypeMismatch = k1
  all_kept k1 k2 k3 k4 k5 k6 k7 k8 NotAvailable = k2
  all_kept k1 k2 k3 k4 k5 k6 k7 k8 PhiEdges = k3
  all_kept k1 k2 k3 k4 k5 k6 k7 k8 PhiPlace = k4
  all_kept k1 k2 k3 k4 k5 k6 k7 k8 EntryBranch = k5
  all_kept k1 k2 k3 k4 k5 k6 k7 k8 Index = k6
  all_kept k1 k2 k3 k4 k5 k6 k7 k8 Cast = k7
  all_kept k1 k2 k3 k4 k5 k6 k7 k8 CaseTwice = k8
