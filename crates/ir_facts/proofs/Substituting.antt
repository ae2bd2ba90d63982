-- Sources of locals are there where the locals are, in a wider family of sets.
use Rattle.std.proofs.Common.{◌≡◌, ℕ, zero, suc, ◌+◌, ◌<◌, nat_eq, ◌==◌, ◌&&◌, ◌||◌, ◌⊎◌, inl, inr, Bool, true, false, List, [], ◌∷◌, ◌++◌, Option, Some, None, map, option_map, length, refl, sym, ◌∙◌, ap, subst, arith, if◌then◌else◌}
use Rattle.std.specs.Prelude.{slice_get, flat_map}
use Rattle.std.specs.List.{cons_option}
use Rattle.std.proofs.lemmas.Bool.{and_from, and_parts, cases_eq, cases_lt, eq-eqb, eqb-true, false≢true, or_cases, or_left, or_right}
use Rattle.std.proofs.lemmas.List.Folds.{list_any-append}
use Rattle.std.proofs.lemmas.Option.{slice_get_within, slice_get-map}
use Rattle.ir_tree.specs.Flow.{Among, IsJustified, Justified, availability, defined_in, definitions, edges, entry_row, holds, locals, parameters, phi_locals, results, room}
use Rattle.ir_tree.specs.Formed.{Distinct, numbers}
use Rattle.ir_tree.specs.Rules.{IsNoPhi}
use Rattle.ir_tree.specs.declared.block.Block.{Block}
use Rattle.ir_tree.specs.declared.block.Terminator.{Terminator}
use Rattle.ir_tree.specs.declared.block.Terminator.TheVariants.{Branch, Jump, Return, Switch, Unreachable}
use Rattle.ir_tree.specs.declared.function.Function.{Function}
use Rattle.ir_tree.specs.declared.instr.Incoming.{Incoming}
use Rattle.ir_tree.specs.declared.instr.Instr.{Instr}
use Rattle.ir_tree.specs.declared.instr.Instr.TheVariants.{Address, Alloca, Binary, Call, Cast, Freeze, Icmp, Load, Phi as StrayPhi, Select, Store}
use Rattle.ir_tree.specs.declared.instr.Line.{Line}
use Rattle.ir_tree.specs.declared.instr.Phi.{Phi}
use Rattle.ir_tree.specs.declared.operand.Argument.{Argument}
use Rattle.ir_tree.specs.declared.operand.Operand.{Operand}
use Rattle.ir_tree.specs.declared.operand.Operand.TheVariants.{Local, Null, Number as Constant, Poison as PoisonOf, Symbol as Named}
use Rattle.ir_meaning.specs.Facts.{edge_operand, is_local}
use Rattle.ir_meaning.specs.Needed.{AllKept, EndReads, IsKept, UsesKept}
use Rattle.ir_tree.specs.Edited.{argument_edited, end_edited, instr_edited}
use Rattle.ir_edit.specs.Substituted.{operand_replaced, or_local}
use Rattle.ir_flow.proofs.Reaching.{edge-from}
use Rattle.ir_flow.proofs.Solved.{at_end, at_ends}
use Rattle.ir_facts.proofs.Covers.{Covers, EdgesCovered, LinesCovered, PhisCovered, PhisEntered, TakenAt, behind, behind_is, closing, closing_is, named, opening, with_named}
use Rattle.ir_facts.proofs.RuleReads.{rule_kept}
use Rattle.ir_facts.proofs.RightSources.{AreSources, LineSource, LineSources, PhiSources}

-- ---- operands that are kept are replaced by ones that are kept

abbrev pub Takes : (ℕ → Bool) → (ℕ → Bool) → (Operand → Operand) → Type 0
Takes s s' h = (o : Operand) → IsKept s o → IsKept s' (h o)

each_taken : (s s' : ℕ → Bool) (h : Operand → Operand) → Takes s s' h → (as' : List Argument) → AllKept s as' → AllKept s' (map (argument_edited h) as')
each_taken s s' h t [] k = tt
each_taken s s' h t (a ∷ more) k = (t a.operand k.0, each_taken s s' h t more k.1)

pub instr_taken : (s s' : ℕ → Bool) (h : Operand → Operand) → Takes s s' h → (i : Instr) → UsesKept s i → UsesKept s' (instr_edited (λ x. x) h i)
instr_taken s s' h t (Binary op f w l r) k = (t l k.0, t r k.1)
instr_taken s s' h t (Icmp p reg l r) k = (t l k.0, t r k.1)
instr_taken s s' h t (Cast op from o to) k = t o k
instr_taken s s' h t (Select c a b) k = (t c k.0, t a.operand k.1, t b.operand k.2)
instr_taken s s' h t (Freeze reg o) k = t o k
instr_taken s s' h t (Alloca shape align) k = tt
instr_taken s s' h t (Load reg o align) k = t o k
instr_taken s s' h t (Store reg o d align) k = (t o k.0, t d k.1)
instr_taken s s' h t (Address inbounds shape o is) k = (t o k.0, each_taken s s' h t is k.1)
instr_taken s s' h t (Call result o args) k = (t o k.0, each_taken s s' h t args k.1)
instr_taken s s' h t (StrayPhi reg es) k = tt

pub end_taken : (s s' : ℕ → Bool) (h : Operand → Operand) → Takes s s' h → (t : Terminator) → EndReads s t → EndReads s' (end_edited (λ x. x) h t)
end_taken s s' h t (Return None) k = tt
end_taken s s' h t (Return (Some a)) k = t a.operand k
end_taken s s' h t (Jump target) k = tt
end_taken s s' h t (Branch c yes' no') k = t c k
end_taken s s' h t (Switch w o default cases) k = t o k
end_taken s s' h t Unreachable k = tt

pub no_phi : (h : Operand → Operand) (i : Instr) → IsNoPhi i → IsNoPhi (instr_edited (λ x. x) h i)
no_phi h (Binary op f w l r) n = tt
no_phi h (Icmp p reg l r) n = tt
no_phi h (Cast op from o to) n = tt
no_phi h (Select c a b) n = tt
no_phi h (Freeze reg o) n = tt
no_phi h (Alloca shape align) n = tt
no_phi h (Load reg o align) n = tt
no_phi h (Store reg o d align) n = tt
no_phi h (Address inbounds shape o is) n = tt
no_phi h (Call result o args) n = tt
no_phi h (StrayPhi reg es) n = absurd n

-- ---- sets that have the sources of their members' locals

abbrev pub Less : (ℕ → Bool) → (ℕ → Bool) → Type 0
Less s s' = (x : ℕ) → s x ≡ true → s' x ≡ true

abbrev pub Sourced : (ℕ → Option Operand) → (ℕ → Bool) → (ℕ → Bool) → Type 0
Sourced c s s' = (x z : ℕ) → s x ≡ true → c x ≡ Some (Local z) → s' z ≡ true

pub takes : (c : ℕ → Option Operand) (s s' : ℕ → Bool) → Less s s' → Sourced c s s' → Takes s s' (operand_replaced c)
takes c s s' less src (Local x) k = by (c x) refl
  where
    by : (o : Option Operand) → c x ≡ o → IsKept s' (or_local o x)
    by None q = less x k
    by (Some (Local z)) q = src x z k q
    by (Some (Constant w n)) q = tt
    by (Some Null) q = tt
    by (Some (PoisonOf reg)) q = tt
    by (Some (Named t i)) q = tt
takes c s s' less src (Constant w n) k = tt
takes c s s' less src Null k = tt
takes c s s' less src (PoisonOf reg) k = tt
takes c s s' less src (Named t i) k = tt

pub named_less : (s s' : ℕ → Bool) (o : Option ℕ) → Less s s' → Less (with_named s o) (with_named s' o)
named_less s s' o less x h =
    elim (or_cases (s x) (named o x) h) [
      | inl a ↦ or_left (s' x) (named o x) (less x a)
      | inr b ↦ or_right (s' x) (named o x) b
    ]

pub named_sourced : (c : ℕ → Option Operand) (s s' : ℕ → Bool) (l : Line) → Less s s' → Sourced c s s' → LineSource c l.local l.instr → UsesKept s l.instr → Sourced c (with_named s l.local) (with_named s' l.local)
named_sourced c s s' l less src line reads x z h e =
    elim (or_cases (s x) (named l.local x) h) [
      | inl a ↦ or_left (s' z) (named l.local z) (src x z a e)
      | inr b ↦ or_left (s' z) (named l.local z) (less z (by l.local line b))
    ]
  where
    by : (o : Option ℕ) → LineSource c o l.instr → named o x ≡ true → s z ≡ true
    by None own b = absurd (false≢true b)
    by (Some y) own b =
        let same : x ≡ y = eqb-true x y b in
        let row = own (Local z) (ap c (sym same) ∙ e) in
        rule_kept s l.instr (Local z) reads row.0

pub lines_end : (c : ℕ → Option Operand) (ls : List Line) (s s' : ℕ → Bool) → Less s s' → Sourced c s s' → LineSources c ls → LinesCovered s ls → Less (behind s ls) (behind s' ls) × Sourced c (behind s ls) (behind s' ls)
lines_end c [] s s' less src own cov = (less, src)
lines_end c (l ∷ ls) s s' less src own cov =
    lines_end c ls (with_named s l.local) (with_named s' l.local) (named_less s s' l.local less) (named_sourced c s s' l less src own.0 cov.1) own.1 cov.2

-- a line's source is there before the line
pub line_sourced : (c : ℕ → Option Operand) (ls : List Line) (s : ℕ → Bool) (x z : ℕ) → LinesCovered s ls → LineSources c ls → holds (results ls) x ≡ true → c x ≡ Some (Local z) → behind s ls z ≡ true
line_sourced c [] s x z cov own h is = absurd (false≢true h)
line_sourced c (l ∷ ls) s x z cov own h is = by (λ g. line_sourced c ls (with_named s l.local) x z cov.2 own.1 g is) l.local refl own.0 h
  where
    here : s z ≡ true → behind (with_named s l.local) ls z ≡ true
    here g = behind_is (with_named s l.local) ls z ∙ or_left (with_named s l.local z) (holds (results ls) z) (or_left (s z) (named l.local z) g)

    by : (holds (results ls) x ≡ true → behind (with_named s l.local) ls z ≡ true) → (o : Option ℕ) → l.local ≡ o → LineSource c o l.instr → holds (cons_option o (results ls)) x ≡ true
        → behind (with_named s l.local) ls z ≡ true
    by later None q line g = later g
    by later (Some y) q line g =
        elim (or_cases (nat_eq x y) (holds (results ls) x) g) [
          | inl e ↦ here (rule_kept s l.instr (Local z) cov.1 (line (Local z) (ap c (sym (eqb-true x y e)) ∙ is)).0)
          | inr more ↦ later more
        ]

-- ---- a test that some number below a bound passes

abbrev any_below : ℕ → (ℕ → Bool) → Bool
any_below zero t = false
any_below (suc n) t = t n || any_below n t

any_found : (n : ℕ) (t : ℕ → Bool) → any_below n t ≡ true → (x : ℕ) × (t x ≡ true)
any_found zero t h = absurd (false≢true h)
any_found (suc n) t h = elim (or_cases (t n) (any_below n t) h) [ inl a ↦ (n, a) | inr b ↦ any_found n t b ]

any_from : (n : ℕ) (t : ℕ → Bool) (x : ℕ) → x < n → t x ≡ true → any_below n t ≡ true
any_from zero t x lt h = absurd (omega (arith, lt))
any_from (suc n) t x lt h =
    elim (cases_eq x n) [
      | inl e ↦ or_left (t n) (any_below n t) (subst (λ (y : ℕ). t y ≡ true) e h)
      | inr ne ↦ or_right (t n) (any_below n t) (any_from n t x (below x n lt ne) h)
    ]
  where
    below : (x n : ℕ) → x < suc n → (x ≡ n → ⊥) → x < n
    below x n lt ne = elim (cases_lt x n) [ inl less ↦ less | inr past ↦ absurd (ne (omega (arith, lt, past))) ]

-- ---- members of lists

pub has_room : (xs : List ℕ) (x : ℕ) → holds xs x ≡ true → x < room xs
has_room [] x h = absurd (false≢true h)
has_room (y ∷ ys) x h =
    elim (or_cases (nat_eq x y) (holds ys x) h) [
      | inl e ↦ let same : x ≡ y = eqb-true x y e in omega (arith, same)
      | inr r ↦ let less : x < room ys = has_room ys x r in omega (arith, less)
    ]

pub holds_left : (xs ys : List ℕ) (x : ℕ) → holds xs x ≡ true → holds (xs ++ ys) x ≡ true
holds_left xs ys x h = list_any-append (nat_eq x) xs ys ∙ or_left (holds xs x) (holds ys x) h

pub holds_right : (xs ys : List ℕ) (x : ℕ) → holds ys x ≡ true → holds (xs ++ ys) x ≡ true
holds_right xs ys x h = list_any-append (nat_eq x) xs ys ∙ or_right (holds xs x) (holds ys x) h

pub in_blocks : (bs : List Block) (p : ℕ) (b : Block) (x : ℕ) → slice_get bs p ≡ Some b → holds (definitions b) x ≡ true → holds (flat_map definitions bs) x ≡ true
in_blocks [] p b x e h = absurd (cc e)
in_blocks (a ∷ bs) zero b x e h = holds_left (definitions a) (flat_map definitions bs) x (let same : a ≡ b = cc e in subst (λ (d : Block). holds (definitions d) x ≡ true) (sym same) h)
in_blocks (a ∷ bs) (suc p) b x e h = holds_right (definitions a) (flat_map definitions bs) x (in_blocks bs p b x e h)

pub defined_room : (f : Function) (p : ℕ) (b : Block) (x : ℕ) → slice_get f.blocks p ≡ Some b → holds (definitions b) x ≡ true → x < room (locals f)
defined_room f p b x e h = has_room (locals f) x (holds_right (parameters f) (flat_map definitions f.blocks) x (in_blocks f.blocks p b x e h))

pub at_place : {X : Type 0} (xs : List X) (i : ℕ) → i < length xs → (y : X) × (slice_get xs i ≡ Some y)
at_place [] i lt = absurd (omega (arith, lt))
at_place (x ∷ xs) zero lt = (x, refl)
at_place (x ∷ xs) (suc i) lt = at_place xs i (omega (arith, lt))

-- ---- numbers of blocks

behind_front : (xs ys : List ℕ) (i : ℕ) → slice_get (xs ++ ys) (length xs + i) ≡ slice_get ys i
behind_front [] ys i = let e : 0 + i ≡ i = omega arith in ap (slice_get ys) e
behind_front (x ∷ xs) ys i = let e : suc (length xs) + i ≡ suc (length xs + i) = omega arith in ap (slice_get (x ∷ (xs ++ ys))) e ∙ behind_front xs ys i

pub one_place : (f : Function) → Distinct (locals f ++ numbers f) → (p q : ℕ) (a b : Block) → slice_get f.blocks p ≡ Some a → slice_get f.blocks q ≡ Some b → a.number ≡ b.number → p ≡ q
one_place f once p q a b e d n =
    let at : (i : ℕ) (c : Block) → slice_get f.blocks i ≡ Some c → slice_get (locals f ++ numbers f) (length (locals f) + i) ≡ Some c.number =
    λ i c g. behind_front (locals f) (numbers f) i ∙ slice_get-map (λ (x : Block). x.number) f.blocks i ∙ ap (option_map (λ (x : Block). x.number)) g in
    let same = once (length (locals f) + p) (length (locals f) + q) b.number (at p a e ∙ ap (λ (m : ℕ). Some m) n) (at q b d) in
    omega (arith, same)

-- ---- the wider family

abbrev names : ℕ → Option Operand → Bool
names z None = false
names z (Some v) = is_local z v

names_true : (z : ℕ) (o : Option Operand) → names z o ≡ true → o ≡ Some (Local z)
names_true z None h = absurd (false≢true h)
names_true z (Some (Local y)) h = ap (λ (n : ℕ). Some (Local n)) (eqb-true y z h)
names_true z (Some (Constant w n)) h = absurd (false≢true h)
names_true z (Some Null) h = absurd (false≢true h)
names_true z (Some (PoisonOf reg)) h = absurd (false≢true h)
names_true z (Some (Named t i)) h = absurd (false≢true h)

abbrev phi_at : Option Block → ℕ → Bool
phi_at None x = false
phi_at (Some b) x = holds (phi_locals b) x

abbrev open_at : (ℕ → ℕ → Bool) → Function → ℕ → ℕ → Bool
open_at r f p x = r p x || phi_at (slice_get f.blocks p) x

-- a local is there where it was, or where one was there whose source it is
pub wider : (ℕ → ℕ → Bool) → (ℕ → Option Operand) → Function → ℕ → ℕ → Bool
wider r c f p z = r p z || any_below (room (locals f)) (λ x. open_at r f p x && names z (c x))

pub edge_taken : (r : ℕ → ℕ → Bool) (f : Function) (n : ℕ) (es : List Incoming) (o : Operand) → EdgesCovered r f es → edge_operand n es ≡ Some o → TakenAt r f n o
edge_taken r f n [] o cov e = absurd (cc e)
edge_taken r f n (d ∷ es) o cov e = by (d.from == n) refl e (λ e'. edge_taken r f n es o cov.1 e')
  where
    by : (t : Bool) → (d.from == n) ≡ t → (if t then Some d.value else edge_operand n es) ≡ Some o → (edge_operand n es ≡ Some o → TakenAt r f n o) → TakenAt r f n o
    by true q e' more =
        let value : d.value ≡ o = cc e' in
        let from : d.from ≡ n = eqb-true d.from n q in
        subst (λ (m : ℕ). TakenAt r f m o) from (subst (λ (v : Operand). TakenAt r f d.from v) value cov.0)
    by false q e' more = more e'

module _ (c : ℕ → Option Operand) (r : ℕ → ℕ → Bool) (f : Function) (cov : Covers r f) (src : AreSources c f) where
  abbrev wide : ℕ → ℕ → Bool
  wide = wider r c f

  pub less_open : (p : ℕ) (b : Block) → Less (opening r p b) (opening wide p b)
  unfolding wider
  less_open p b x h =
      elim (or_cases (r p x) (holds (phi_locals b) x) h) [
        | inl a ↦ or_left (wide p x) (holds (phi_locals b) x) (or_left (r p x) (any_below (room (locals f)) (λ y. open_at r f p y && names x (c y))) a)
        | inr o ↦ or_right (wide p x) (holds (phi_locals b) x) o
      ]

  open_room : (p : ℕ) (b : Block) (x : ℕ) → slice_get f.blocks p ≡ Some b → opening r p b x ≡ true → x < room (locals f)
  open_room p b x e h =
      elim (or_cases (r p x) (holds (phi_locals b) x) h) [
        | inl a ↦ (cov.justified p x a).1
        | inr o ↦ defined_room f p b x e (holds_left (phi_locals b) (results b.lines) x o)
      ]

  pub sourced_open : (p : ℕ) (b : Block) → slice_get f.blocks p ≡ Some b → Sourced c (opening r p b) (opening wide p b)
  unfolding wider
  sourced_open p b e x z h is =
      let opened : open_at r f p x ≡ true = ap (λ (o : Option Block). r p x || phi_at o x) e ∙ h in
      let named : names z (c x) ≡ true = ap (names z) is ∙ eq-eqb z z refl in
      or_left (wide p z) (holds (phi_locals b) z)
      (or_right (r p z) (any_below (room (locals f)) (λ y. open_at r f p y && names z (c y)))
      (any_from (room (locals f)) (λ y. open_at r f p y && names z (c y)) x (open_room p b x e h) (and_from (open_at r f p x) (names z (c x)) opened named)))

  pub at_ends_of : (p : ℕ) (b : Block) → slice_get f.blocks p ≡ Some b → Less (closing r p b) (closing wide p b) × Sourced c (closing r p b) (closing wide p b)
  at_ends_of p b e =
      let both = lines_end c b.lines (opening r p b) (opening wide p b) (less_open p b) (sourced_open p b e) (src.lines p b e) (cov.blocks p b e).lines in (
        (λ x h. sym (closing_is wide p b x) ∙ both.0 x (closing_is r p b x ∙ h)),
        (λ x z h is. sym (closing_is wide p b z) ∙ both.1 x z (closing_is r p b x ∙ h) is),
      )

  block_of : (p x : ℕ) → open_at r f p x ≡ true → (b : Block) × (slice_get f.blocks p ≡ Some b)
  block_of p x h = at_place f.blocks p (by (slice_get f.blocks p) refl (or_cases (r p x) (phi_at (slice_get f.blocks p) x) h))
    where
      by : (o : Option Block) → slice_get f.blocks p ≡ o → (r p x ≡ true) ⊎ (phi_at (slice_get f.blocks p) x ≡ true) → p < length f.blocks
      by o e (inl a) = (cov.justified p x a).0
      by None e (inr g) = absurd (false≢true (sym (ap (λ (o : Option Block). phi_at o x) e) ∙ g))
      by (Some b) e (inr g) = slice_get_within f.blocks p b e

  -- what a phi takes on an edge is its source or itself
  pub phi_leads : (n x z : ℕ) (all ps : List Phi) → PhiSources c all ps → PhisCovered r f ps → PhisEntered n ps → holds (map (λ p. p.local) ps) x ≡ true → c x ≡ Some (Local z)
      → TakenAt r f n (Local z) ⊎ TakenAt r f n (Local x)
  phi_leads n x z all [] own taken entered h is = absurd (false≢true h)
  phi_leads n x z all (p ∷ ps) own taken entered h is =
      elim (or_cases (nat_eq x p.local) (holds (map (λ q. q.local) ps) x) h) [
        | inl e ↦ here (eqb-true x p.local e)
        | inr g ↦ phi_leads n x z all ps own.1 taken.1 entered.1 g is
      ]
    where
      here : x ≡ p.local → TakenAt r f n (Local z) ⊎ TakenAt r f n (Local x)
      here same =
          let source = own.0 (Local z) (ap c (sym same) ∙ is) in
          let o = entered.0.0 in
          let at = edge_taken r f n p.incoming o taken.0 entered.0.1 in
          elim (source.0.entries n o entered.0.1) [
            | inl e ↦ inl (subst (λ (v : Operand). TakenAt r f n v) e at)
            | inr e ↦ inr (subst (λ (v : Operand). TakenAt r f n v) (e ∙ ap (λ (m : ℕ). Local m) (sym same)) at)
          ]

  -- what is taken at the end of a block is there
  pub taken_here : (p : ℕ) (a : Block) (y : ℕ) → slice_get f.blocks p ≡ Some a → TakenAt r f a.number (Local y) → closing r p a y ≡ true
  taken_here p a y e t =
      let q : t.place ≡ p = one_place f cov.once t.place p t.block a t.found e t.number in
      let same : t.block ≡ a = cc (sym t.found, ap (slice_get f.blocks) q, e) in
      subst (λ (b : Block). closing r p b y ≡ true) same (subst (λ (i : ℕ). closing r i t.block y ≡ true) q t.kept)

  end_has : (b : ℕ) (block : Block) (x z : ℕ) → slice_get f.blocks b ≡ Some block → opening r b block x ≡ true → c x ≡ Some (Local z) → (b ≡ 0 → ⊥) → (p : ℕ) → Among p (edges f b) → (wide p z || defined_in (slice_get f.blocks p) z) ≡ true
  end_has b block x z e h is away p edge =
      let found = at_place f.blocks p (edge-from f b p edge) in
      let a = found.0 in
      ap (λ (o : Option Block). wide p z || defined_in o z) found.1 ∙ at_end_of a found.1 (or_cases (r b x) (holds (phi_locals block) x) h)
    where
      from_pred : r b x ≡ true → (r p x || defined_in (slice_get f.blocks p) x) ≡ true
      from_pred g = by (nat_eq b 0) refl (cov.justified b x g).2
        where
          by : (t : Bool) → nat_eq b 0 ≡ t → Justified (availability f) r b x (if t then Some (holds (parameters f)) else None) → (r p x || defined_in (slice_get f.blocks p) x) ≡ true
          by true q j = absurd (away (eqb-true b 0 q))
          by false q j = at_end (availability f) r x p (edges f b) j edge

      at_end_of : (a : Block) → slice_get f.blocks p ≡ Some a → (r b x ≡ true) ⊎ (holds (phi_locals block) x ≡ true) → closing wide p a z ≡ true
      at_end_of a found (inl g) = (at_ends_of p a found).1 x z (sym (ap (λ (o : Option Block). r p x || defined_in o x) found) ∙ from_pred g) is
      at_end_of a found (inr g) =
          let cover = cov.blocks b block e in
          elim (phi_leads a.number x z block.phis block.phis (src.phis b block e) cover.phis (cover.entered p a edge found) g is) [
            | inl t ↦ (at_ends_of p a found).0 z (taken_here p a z found t)
            | inr t ↦ (at_ends_of p a found).1 x z (taken_here p a x found t) is
          ]

  entry_bare : (b : ℕ) (block : Block) (x : ℕ) (v : Operand) → slice_get f.blocks b ≡ Some block → opening r b block x ≡ true → c x ≡ Some v → b ≡ 0 → ⊥
  entry_bare b block x v e h is zero_is =
      elim (or_cases (r b x) (holds (phi_locals block) x) h) [
        | inl g ↦ false≢true (sym (src.params x v is) ∙ given g)
        | inr g ↦ false≢true (sym (ap (λ (ps : List Phi). holds (map (λ p. p.local) ps) x) (cov.bare block (ap (slice_get f.blocks) (sym zero_is) ∙ e))) ∙ g)
      ]
    where
      given : r b x ≡ true → holds (parameters f) x ≡ true
      given g = by (nat_eq b 0) refl (cov.justified b x g).2
        where
          by : (t : Bool) → nat_eq b 0 ≡ t → Justified (availability f) r b x (if t then Some (holds (parameters f)) else None) → holds (parameters f) x ≡ true
          by true q j = j
          by false q j = absurd (false≢true (sym q ∙ eq-eqb b 0 zero_is))

  pub wide_justified : IsJustified (availability f) wide
  unfolding wider
  wide_justified b z m =
      elim (or_cases (r b z) (any_below (room (locals f)) (λ x. open_at r f b x && names z (c x))) m) [
        | inl a ↦ old a
        | inr g ↦ new (any_found (room (locals f)) (λ x. open_at r f b x && names z (c x)) g)
      ]
    where
      widened : (p : ℕ) → (r p z || defined_in (slice_get f.blocks p) z) ≡ true → (wide p z || defined_in (slice_get f.blocks p) z) ≡ true
      widened p h =
          elim (or_cases (r p z) (defined_in (slice_get f.blocks p) z) h) [
            | inl a ↦ or_left (wide p z) (defined_in (slice_get f.blocks p) z) (or_left (r p z) (any_below (room (locals f)) (λ x. open_at r f p x && names z (c x))) a)
            | inr d ↦ or_right (wide p z) (defined_in (slice_get f.blocks p) z) d
          ]

      old : r b z ≡ true → (b < length f.blocks) × (z < room (locals f)) × Justified (availability f) wide b z (entry_row b (parameters f))
      old a = let j = cov.justified b z a in (j.0, j.1, by (nat_eq b 0) j.2)
        where
          by : (t : Bool) → Justified (availability f) r b z (if t then Some (holds (parameters f)) else None) → Justified (availability f) wide b z (if t then Some (holds (parameters f)) else None)
          by true j = j
          by false j = at_ends (availability f) wide z (edges f b) (λ p edge. widened p (at_end (availability f) r z p (edges f b) j edge))

      new : (x : ℕ) × ((open_at r f b x && names z (c x)) ≡ true) → (b < length f.blocks) × (z < room (locals f)) × Justified (availability f) wide b z (entry_row b (parameters f))
      new found =
          let x = found.0 in
          let parts = and_parts (open_at r f b x) (names z (c x)) found.1 in
          let is = names_true z (c x) parts.1 in
          let at = block_of b x parts.0 in
          let opened : opening r b at.0 x ≡ true = sym (ap (λ (o : Option Block). r b x || phi_at o x) at.1) ∙ parts.0 in
          (slice_get_within f.blocks b at.0 at.1, src.within x z is, by (nat_eq b 0) refl x is at.0 at.1 opened)
        where
          by : (t : Bool) → nat_eq b 0 ≡ t → (x : ℕ) → c x ≡ Some (Local z) → (block : Block) → slice_get f.blocks b ≡ Some block → opening r b block x ≡ true
              → Justified (availability f) wide b z (if t then Some (holds (parameters f)) else None)
          by true q x is block e opened = absurd (entry_bare b block x (Local z) e opened is (eqb-true b 0 q))
          by false q x is block e opened = at_ends (availability f) wide z (edges f b) (λ p edge. end_has b block x z e opened is (λ h. false≢true (sym q ∙ eq-eqb b 0 h)) p edge)
