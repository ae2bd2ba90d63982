use Rattle.std.proofs.Common.{◌≡◌, ◌+◌, ◌∷◌, [], ℕ, suc, List, get_or, map, take, refl, sym, ap, ◌∙◌, arith}
use Rattle.std.proofs.lemmas.List.{map-append, take_all}
use Rattle.ir_tree.specs.declared.operand.Symbol.{Symbol}
use Rattle.ir_meaning.specs.declared.value.Byte.TheVariants.{Plain}
use Rattle.machine_code.proofs.Lists.{none_taken, take_more}
use Rattle.machine_code.proofs.Writing.{wrote_both, wrote_none, wrote_same}
use Rattle.machine_code.proofs.image.Image.text.Goals as goal

pub loop-byte-init : goal.loop-byte-init
loop-byte-init c = record {
  wrote = wrote_same c.args.self.now c.args.self.now _ _ (λ names. ap (λ (ns : List ℕ). map Plain ns) (sym (none_taken c.args.text.now))) (wrote_none c.args.self.now);
  holds = λ t h. h;
  place = omega arith;
  opens = refl;
}

pub put_byte-requires : goal.put_byte-requires
put_byte-requires c = omega (arith, c.loop-byte.invariant.place, c.loop-byte.invariant.wrote.long, c.loop-byte-test.true, c.requires)

pub loop-byte-preserved : goal.loop-byte-preserved
loop-byte-preserved c =
    let text = c.args.text.now in
    let k = c.loop-byte.byte-index in
    let x = get_or text k 0 in
    let one : suc k ≡ k + 1 = omega arith in
    record {
      wrote = wrote_same c.args.self.now c.put_byte.new.self _ _
          (λ names. sym (map-append Plain (take k text) (x ∷ [])) ∙ ap (λ (ns : List ℕ). map Plain ns) (take_more text k 0 x c.loop-byte-test.true refl ∙ ap (λ (j : ℕ). take j text) one))
          (wrote_both c.args.self.now c.loop-byte.self c.put_byte.new.self (λ (names : List Symbol). map Plain (take k text)) (λ (names : List Symbol). map Plain (x ∷ [])) c.loop-byte.invariant.wrote c.in_ok-put_byte.ensures.wrote);
      holds = λ t h. c.in_ok-put_byte.ensures.holds t (c.loop-byte.invariant.holds t h);
      place = omega (arith, c.in_ok-put_byte.ensures.place, c.loop-byte.invariant.place);
      opens = c.put_byte.ensures.opens ∙ c.loop-byte.invariant.opens;
    }

pub returns-clause-wrote : goal.returns-clause-wrote
returns-clause-wrote c =
    wrote_same c.args.self.now c.loop-byte.self _ _ (λ names. ap (λ (ns : List ℕ). map Plain ns) (take_all c.loop-byte.byte-index c.args.text.now (omega (arith, c.loop-byte-test.false)))) c.loop-byte.invariant.wrote

pub returns-clause-holds : goal.returns-clause-holds
returns-clause-holds c = c.loop-byte.invariant.holds
