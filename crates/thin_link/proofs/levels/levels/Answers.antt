use Rattle.std.proofs.Common.{◌≡◌, ◌∙◌, ◌*◌, ◌/◌, ◌++◌, [], ℕ, suc, List, length, ap, subst, sym, refl, arith}
use Rattle.std.proofs.lemmas.Grind.{common_steps}
use Rattle.std.proofs.lemmas.List.{nil_from_length}
use Rattle.thin_link.specs.Chains.{is_importable}
use Rattle.thin_link.specs.Walking.{Grown, IsLevel, called_by}
use Rattle.thin_link.proofs.Chained.{level-done, level-start, level-step}
use Rattle.thin_link.proofs.levels.levels.Goals as goal

pub loop-alloc-init : goal.loop-alloc-init
loop-alloc-init c = record {
  len = c.in_ok-level.ensures.long ∙ c.requires.size;
  k = 0;
  most = refl;
  level =
      subst (λ (found : List ℕ). IsLevel c.args.index.now c.args.live.now c.args.limit c.args.definitions.now 0 c.first_level.new.seen found c.in_ok-level.level.items) (sym c.new-found.ensures.items)
      (level-start c.args.index.now c.args.live.now c.args.limit c.args.definitions.now c.args.seen.now c.first_level.new.seen c.in_ok-level.level.items c.requires.own c.in_ok-level.ensures);
}

pub loop-alloc-preserved : goal.loop-alloc-preserved
loop-alloc-preserved c = record {
  len = c.in_ok-next.ensures.long ∙ c.loop-alloc.invariant.len;
  k = suc c.loop-alloc.invariant.k;
  most = c.decayed-most.ensures ∙ ap (λ (n : ℕ). n * 7 / 10) c.loop-alloc.invariant.most;
  level =
      subst
      (λ (found : List ℕ). IsLevel c.args.index.now c.args.live.now c.args.limit c.args.definitions.now (suc c.loop-alloc.invariant.k) c.next_level.new.seen found c.in_ok-next.next.items)
      (sym (c.in_ok-extend_from_slice.ensures.items ∙ ap (λ (ns : List ℕ). c.loop-alloc.found.items ++ ns) c.deref-in-loop-alloc.ensures.value))
      (level-step c.args.index.now c.args.live.now c.args.limit c.args.definitions.now c.loop-alloc.invariant.k c.loop-alloc.seen c.next_level.new.seen c.loop-alloc.found.items
      c.loop-alloc.level.items c.in_ok-next.next.items c.loop-alloc.invariant.level
      (subst (λ (most : ℕ). Grown (is_importable c.args.index.now most) c.loop-alloc.seen [] (called_by c.args.index.now c.loop-alloc.level.items) c.next_level.new.seen c.in_ok-next.next.items)
      (c.decayed-most.ensures ∙ ap (λ (n : ℕ). n * 7 / 10) c.loop-alloc.invariant.most)
      (subst (λ (ns : List ℕ). Grown (is_importable c.args.index.now c.decayed-most.result) c.loop-alloc.seen [] (called_by c.args.index.now ns) c.next_level.new.seen c.in_ok-next.next.items)
      c.deref.ensures.value c.in_ok-next.ensures)));
}

pub returns : goal.returns
returns c =
    let none : length c.loop-alloc.level.items ≡ 0 = grind (arith, common_steps, c.loop-alloc-test.ensures, c.loop-alloc.level.ok.0) in (
      c.loop-alloc.invariant.len ∙ sym c.requires.size,
      level-done c.args.index.now c.args.live.now c.args.limit c.args.definitions.now c.loop-alloc.invariant.k c.loop-alloc.seen c.loop-alloc.found.items c.loop-alloc.level.items
          (nil_from_length c.loop-alloc.level.items none) c.loop-alloc.invariant.level,
    )
