-- Refining composes.
use Rattle.std.proofs.Common.{◌≡◌, IsTrue, ℕ, ◌<◌, List, ◌++◌, Option, Some, None, inl, inr, sym, ap, ◌∙◌, subst, arith, append_assoc}
use Rattle.ir_tree.specs.declared.operand.Symbol.{Symbol}
use Rattle.ir_meaning.specs.Program.{Program, variables, State}
use Rattle.ir_meaning.specs.Refine.{Naming, own_names, SameCell, SameKind, MayStandFor, AnswerMayStandFor, SameEnding, EndsBadly, Matched, RefinesFrom, RefinesUnder}
use Rattle.ir_meaning.specs.Run.{Ending, Running, Returned, Failed, Ran, run}
use Rattle.ir_meaning.specs.declared.event.Event.{Event}
use Rattle.ir_meaning.specs.declared.value.Base.{Base}
use Rattle.ir_meaning.specs.declared.value.Base.TheVariants.{Nowhere, Code, Cell}
use Rattle.ir_meaning.specs.declared.value.Value.{Value}
use Rattle.ir_meaning.specs.declared.value.Value.TheVariants.{Number, Pointer, Poison}
use Rattle.ir_meaning.specs.Laws.{Transitivity}
use Rattle.ir_meaning.specs.Rename.{then_names, ChainUnder}

-- the two name the same variables in the middle
pub record Meet (t u : Naming) : Type 0 where
  pub middle : t.count' ≡ u.count
  pub within : (l : ℕ) → l < t.count → t.variable l < t.count'

cell_trans : (t u : Naming) → Meet t u → (l m r : ℕ) → SameCell t l m → SameCell u m r → SameCell (then_names t u) l r
cell_trans t u c l m r (inl a) (inl b) = inl (a.0, ap u.variable a.1 ∙ b.1)
cell_trans t u c l m r (inr a) (inr b) = inr (a.0, b.1)
cell_trans t u c l m r (inl a) (inr b) = let x = c.within l a.0 in absurd (omega (arith, x, a.1, b.0, c.middle))
cell_trans t u c l m r (inr a) (inl b) = absurd (omega (arith, a.1, b.0, c.middle))

base_trans : (t u : Naming) → Meet t u → (x y z : Base) → SameKind t x y → SameKind u y z → SameKind (then_names t u) x z
base_trans t u c Nowhere Nowhere Nowhere a b = tt
base_trans t u c (Code s) (Code r) (Code o) a b = ap u.symbol a ∙ b
base_trans t u c (Cell l) (Cell m) (Cell r) a b = cell_trans t u c l m r a b
base_trans t u c Nowhere (Code r) z a b = absurd a
base_trans t u c Nowhere (Cell m) z a b = absurd a
base_trans t u c (Code s) Nowhere z a b = absurd a
base_trans t u c (Code s) (Cell m) z a b = absurd a
base_trans t u c (Cell l) Nowhere z a b = absurd a
base_trans t u c (Cell l) (Code r) z a b = absurd a
base_trans t u c Nowhere Nowhere (Code o) a b = absurd b
base_trans t u c Nowhere Nowhere (Cell r) a b = absurd b
base_trans t u c (Code s) (Code r) Nowhere a b = absurd b
base_trans t u c (Code s) (Code r) (Cell m) a b = absurd b
base_trans t u c (Cell l) (Cell m) Nowhere a b = absurd b
base_trans t u c (Cell l) (Cell m) (Code o) a b = absurd b

value_trans : (t u : Naming) → Meet t u → (x y z : Value) → MayStandFor t x y → MayStandFor u y z → MayStandFor (then_names t u) x z
value_trans t u c x y Poison a b = tt
value_trans t u c (Number k) (Number l) (Number m) a b = a ∙ b
value_trans t u c (Pointer k i) (Pointer l j) (Pointer m h) a b = (base_trans t u c k l m a.0 b.0, a.1 ∙ b.1)
value_trans t u c x Poison (Number m) a b = absurd b
value_trans t u c x Poison (Pointer m h) a b = absurd b
value_trans t u c x (Number l) (Pointer m h) a b = absurd b
value_trans t u c x (Pointer l j) (Number m) a b = absurd b
value_trans t u c Poison (Number l) (Number m) a b = absurd a
value_trans t u c (Pointer k i) (Number l) (Number m) a b = absurd a
value_trans t u c Poison (Pointer l j) (Pointer m h) a b = absurd a
value_trans t u c (Number k) (Pointer l j) (Pointer m h) a b = absurd a

answer_trans : (t u : Naming) → Meet t u → (x y z : Option Value) → AnswerMayStandFor t x y → AnswerMayStandFor u y z →
    AnswerMayStandFor (then_names t u) x z
answer_trans t u c None None None a b = tt
answer_trans t u c (Some x) (Some y) (Some z) a b = value_trans t u c x y z a b
answer_trans t u c None (Some y) z a b = absurd a
answer_trans t u c (Some x) None z a b = absurd a
answer_trans t u c None None (Some z) a b = absurd b
answer_trans t u c (Some x) (Some y) None a b = absurd b

ending_trans : (t u : Naming) → Meet t u → (x y z : Ending) → SameEnding t x y → SameEnding u y z → SameEnding (then_names t u) x z
ending_trans t u c Running Running Running a b = tt
ending_trans t u c (Returned x) (Returned y) (Returned z) a b = answer_trans t u c x y z a b
ending_trans t u c Running Running (Returned z) a b = absurd b
ending_trans t u c Running Running (Failed w) a b = absurd b
ending_trans t u c Running (Returned y) z a b = absurd a
ending_trans t u c Running (Failed w) z a b = absurd a
ending_trans t u c (Returned x) Running z a b = absurd a
ending_trans t u c (Returned x) (Failed w) z a b = absurd a
ending_trans t u c (Returned x) (Returned y) Running a b = absurd b
ending_trans t u c (Returned x) (Returned y) (Failed w) a b = absurd b
ending_trans t u c (Failed w) y z a b = absurd a

-- a bad end is matched by bad ends alone
bad_again : (u : Naming) (b c : Program) (input : List ℕ) (s x : State) (trace : List Event) →
    ((choices : List ℕ) → Matched u c input x (run b input choices s)) → EndsBadly b input s trace → EndsBadly c input x trace
bad_again u b c input s x trace again e = by (again e.choices)
  where
    by : Matched u c input x (run b input e.choices s) → EndsBadly c input x trace
    by (inl y) = record {
      choices = y.choices;
      failure = y.failure;
      ends = y.ends;
      later = y.later ++ e.later;
      front = e.front
          ∙ ap (λ (l : List Event). l ++ e.later) y.front ∙ append_assoc (run c input y.choices x).trace y.later e.later;
    }
    by (inr y) = absurd (subst (λ (z : Ending). SameEnding u z (run c input y.choices x).ending) e.ends y.ending)

matched_trans : (t u : Naming) → Meet t u → (b c : Program) (input : List ℕ) (s x : State) (ran : Ran) →
    ((choices : List ℕ) → Matched u c input x (run b input choices s)) → Matched t b input s ran →
    Matched (then_names t u) c input x ran
matched_trans t u m b c input s x ran again (inl e) = inl (bad_again u b c input s x ran.trace again e)
matched_trans t u m b c input s x ran again (inr e) = by (again e.choices)
  where
    by : Matched u c input x (run b input e.choices s) → Matched (then_names t u) c input x ran
    by (inl y) = inl (record { choices = y.choices; failure = y.failure; ends = y.ends; later = y.later; front = sym e.trace ∙ y.front })
    by (inr y) = inr (record {
      choices = y.choices;
      steps = omega (arith, e.steps, y.steps);
      trace = y.trace ∙ e.trace;
      ending = ending_trans t u m ran.ending (run b input e.choices s).ending (run c input y.choices x).ending e.ending
          y.ending;
    })

from_trans : (t u : Naming) → Meet t u → (a b c : Program) → (x y z : Option State) → RefinesFrom t a b x y →
    RefinesFrom u b c y z → RefinesFrom (then_names t u) a c x z
from_trans t u m a b c None None None f g = tt
from_trans t u m a b c (Some x) (Some y) (Some z) f g =
    λ input choices. matched_trans t u m b c input y z (run a input choices x) (λ choices'. g input choices') (f input choices)
from_trans t u m a b c None (Some y) z f g = absurd f
from_trans t u m a b c (Some x) None z f g = absurd f
from_trans t u m a b c None None (Some z) f g = absurd g
from_trans t u m a b c (Some x) (Some y) None f g = absurd g

-- refining under names, and then under others
pub under_trans : (t u : Naming) → Meet t u → (a b c : Program) (IsRoot IsRoot' : Symbol → Type 0) →
    ((s : Symbol) → IsRoot s → IsRoot' (t.symbol s)) → RefinesUnder t a b IsRoot → RefinesUnder u b c IsRoot' →
    RefinesUnder (then_names t u) a c IsRoot
under_trans t u m a b c IsRoot IsRoot' roots f g root is arguments =
    from_trans t u m a b c _ _ _ (f root is arguments) (g (t.symbol root) (roots root is) arguments)

pub refines_trans : Transitivity
refines_trans a b c IsRoot same f g =
    let t = own_names (variables b) in
    let u = own_names (variables c) in
    let r = under_trans t u (record { middle = same; within = λ l lt. lt }) a b c (λ s. IsTrue (IsRoot s))
    (λ s. IsTrue (IsRoot s)) (λ s h. h) f g in
    subst (λ (n : ℕ). RefinesUnder (record {
      symbol = λ (s : Symbol). s;
      variable = λ (l : ℕ). l;
      count = n;
      count' = variables c;
    }) a c (λ s. IsTrue (IsRoot s))) same r

pub chained_under : ChainUnder
chained_under t u a b c IsRoot IsRoot' middle within roots f g = under_trans t u (record { middle = middle; within = within }) a
    b c (λ s. IsTrue (IsRoot s)) (λ s. IsTrue (IsRoot' s)) roots f g
