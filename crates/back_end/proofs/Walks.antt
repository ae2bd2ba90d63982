-- What a walk makes is sound, better where the bodies are the program's own, and one.
use Rattle.std.proofs.Common.{◌≡◌, ◌∙◌, ◌<◌, ◌≤◌, ◌*◌, ℕ, zero, suc, ◌⊎◌, inl, inr, List, Option, Some, ap, sym, subst, arith, mul-pos}
use Rattle.std.proofs.lemmas.Bool.{cases_lt}
use Rattle.ir_tree.specs.Rules.{Sound}
use Rattle.ir_tree.specs.declared.function.Function.{Function}
use Rattle.ir_tree.specs.declared.instr.Line.{Line}
use Rattle.ir_tree.specs.declared.operand.Symbol.{Symbol}
use Rattle.ir_meaning.proofs.Alike.Itself.{same_better}
use Rattle.ir_meaning.proofs.Between.InARow.{in_a_row}
use Rattle.inline_site.specs.Inlined.{IsInlined}
use Rattle.inline_site.specs.Laws.{InlinedIsBetter, InlinedIsOne, InlinedIsSound}
use Rattle.inline_site.proofs.Standing.{one_line}
use Rattle.back_end.specs.Inlinable.{AreSound, callee_of}
use Rattle.back_end.specs.Walk.{IsFirst, TakesAt, Walks, next_place}
use Rattle.back_end.specs.WalkLaws.{IsBetterWith, WalkIsBetter, WalkIsOne}

some_times : (a b : ℕ) → 1 ≤ a → 1 ≤ b → 1 ≤ a * b
some_times a b h k = omega (arith, mul-pos {m = a} {n = b} (omega (arith, h)) (omega (arith, k)))

-- ---- better where the bodies are the program's own

pub itself : (bodies : List ℕ → Option Function) (f : Function) → IsBetterWith bodies f f
itself bodies f = record { bound = 1; some = omega arith; better = λ p formed own. same_better p formed f }

-- h is better than g, and g than f
pub behind : (bodies : List ℕ → Option Function) (f g h : Function) → IsBetterWith bodies h g → IsBetterWith bodies g f → IsBetterWith bodies h f
behind bodies f g h one other = record {
  bound = one.bound * other.bound;
  some = some_times one.bound other.bound one.some other.some;
  better = λ p formed own. in_a_row p formed one.bound other.bound other.some h g f (one.better p formed own) (other.better p formed own);
}

-- sound, and better
abbrev pub Kept : (List ℕ → Option Function) → Function → Function → Type 0
Kept bodies f g = Sound g × IsBetterWith bodies g f

pub further : (bodies : List ℕ → Option Function) (f g h : Function) → Kept bodies f g → Kept bodies g h → Kept bodies f h
further bodies f g h (was, one) (sound, other) = (sound, behind bodies f g h other one)

pub is_itself : (bodies : List ℕ → Option Function) (f g : Function) → Sound f → g ≡ f → Kept bodies f g
is_itself bodies f g sound e = subst (Kept bodies f) (sym e) (sound, itself bodies f)

-- ---- one walk

pub record InlineLaws : Type 0 where
  pub better : InlinedIsBetter
  pub sound : InlinedIsSound

pub walks_keep : InlineLaws → (k : ℕ) (bodies : List ℕ → Option Function) (from : ℕ) (f g : Function) → Sound f → AreSound bodies → Walks k bodies from f g → Kept bodies f g
unfolding Walks
walks_keep laws zero bodies from f g sound sounds (none, e) = is_itself bodies f g sound e
walks_keep laws (suc k) bodies from f g sound sounds (place, c, first, h, inlined, rest) =
    further bodies f h g kept (walks_keep laws k bodies (next_place f place h) h g kept.0 sounds rest)
  where
    body : bodies c.symbol.name ≡ Some c
    body = first.takes.takes.body

    kept : Kept bodies f h
    kept = (
      laws.sound f c h place inlined sound (sounds c.symbol.name c body),
      record {
        bound = 1;
        some = omega arith;
        better = λ p formed own. laws.better f c h place inlined sound (sounds c.symbol.name c body) p formed (own c.symbol.name c body);
      },
    )

pub walk_keeps : InlineLaws → WalkIsBetter
walk_keeps laws bodies f g sound sounds (k, walks) = walks_keep laws k bodies 1 f g sound sounds walks

-- ---- its steps

pub one_more : (k : ℕ) (bodies : List ℕ → Option Function) (from place next : ℕ) (f g h c : Function) → IsFirst bodies f from place c → IsInlined f place c (Some h) → next ≡ next_place f place h
    → Walks k bodies next h g → Walks (suc k) bodies from f g
unfolding Walks
one_more k bodies from place next f g h c first inlined is rest = (place, c, first, h, inlined, subst (λ (n : ℕ). Walks k bodies n h g) is rest)

pub none_more : (bodies : List ℕ → Option Function) (from : ℕ) (f g : Function) → ((place : ℕ) (callee : Function) → from ≤ place → TakesAt bodies f place callee → ⊥) → g ≡ f → Walks 0 bodies from f g
unfolding Walks
none_more bodies from f g none is = (none, is)

-- ---- one result

-- one body is taken at a place
one_taken : (bodies : List ℕ → Option Function) (f : Function) (place : ℕ) (c d : Function) → TakesAt bodies f place c → TakesAt bodies f place d → c ≡ d
one_taken bodies f place c d a b =
    let line : a.site.call ≡ b.site.call = one_line f.blocks place a.site b.site a.stands b.stands in
    let symbols : Some c.symbol ≡ Some d.symbol = sym (ap callee_of a.takes.call.direct) ∙ ap (λ (l : Line). callee_of l.instr) line ∙ ap callee_of b.takes.call.direct in
    let symbol : c.symbol ≡ d.symbol = cc symbols in
    let bodies' : Some c ≡ Some d = sym a.takes.body ∙ ap (λ (s : Symbol). bodies s.name) symbol ∙ b.takes.body in
    cc bodies'

one_place : (bodies : List ℕ → Option Function) (f : Function) (from p q : ℕ) (c d : Function) → IsFirst bodies f from p c → IsFirst bodies f from q d → p ≡ q
one_place bodies f from p q c d a b = first (cases_lt p q) (cases_lt q p)
  where
    first : (p < q) ⊎ (q ≤ p) → (q < p) ⊎ (p ≤ q) → p ≡ q
    first (inl lt) other = absurd (b.first p c a.behind lt a.takes)
    first (inr le) (inl lt) = absurd (a.first q d b.behind lt b.takes)
    first (inr le) (inr more) = omega (arith, le, more)

module _ (one : InlinedIsOne) where
  walks_are_one : (k l : ℕ) (bodies : List ℕ → Option Function) (from : ℕ) (f g h : Function) → Walks k bodies from f g → Walks l bodies from f h → g ≡ h
  unfolding Walks
  walks_are_one zero zero bodies from f g h (none, a) (other, b) = a ∙ sym b
  walks_are_one zero (suc l) bodies from f g h (none, a) (place, c, first, m, inlined, rest) = absurd (none place c first.behind first.takes)
  walks_are_one (suc k) zero bodies from f g h (place, c, first, m, inlined, rest) (none, b) = absurd (none place c first.behind first.takes)
  walks_are_one (suc k) (suc l) bodies from f g h (place, c, first, m, inlined, rest) (place', c', first', m', inlined', rest') =
      walks_are_one k l bodies (next_place f place m) m g h rest
      (subst (λ (n : Function). Walks l bodies (next_place f place n) n h) (sym made) (subst (λ (p : ℕ). Walks l bodies (next_place f p m') m' h) (sym places) rest'))
    where
      places : place ≡ place'
      places = one_place bodies f from place place' c c' first first'

      callees : c ≡ c'
      callees = one_taken bodies f place c c' first.takes (subst (λ (p : ℕ). TakesAt bodies f p c') (sym places) first'.takes)

      made : m ≡ m'
      made = one f c m m' place inlined (subst (λ (p : ℕ). IsInlined f p c (Some m')) (sym places) (subst (λ (d : Function). IsInlined f place' d (Some m')) (sym callees) inlined'))

  pub walk_once : WalkIsOne
  walk_once bodies f g h (k, a) (l, b) = walks_are_one k l bodies 1 f g h a b
