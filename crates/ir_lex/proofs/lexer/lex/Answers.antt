use Rattle.std.proofs.Common.{◌≡◌, ◌≤◌, ◌<◌, ◌+◌, List, ℕ, refl, sym, ap, subst, ◌∙◌, arith, drop}
use Rattle.std.proofs.lemmas.List.{map_push}
use Rattle.ir_lex.specs.Tok.{Tok, tok, toks}
use Rattle.ir_lex.specs.Blanks.{ends_before, line_behind, place}
use Rattle.ir_lex.specs.Lexing.{Lead, Stands}
use Rattle.ir_lex.proofs.Free.{free_on}
use Rattle.ir_lex.proofs.Leads.{goes_on}
use Rattle.ir_lex.proofs.lexer.lex.Goals as goal

pub each-init : goal.each-init
each-init c = record {
  so_far = record {
    after = place 1 c.args.bytes.now;
    lead = subst (λ (ts : List Tok). Lead (place 1 c.args.bytes.now) ts (place 1 c.args.bytes.now)) (sym (ap toks c.in_ok-tokens.ensures.items)) refl;
    rest = c.skip-spot.ensures.exact ∙ ap (λ (x : List ℕ). place c.skip-spot.result.line x) (sym c.split_at.ensures.back);
  };
  lines = omega (arith, c.skip-spot.ensures.lines, c.skip-spot.ensures.within, c.split_at.ensures.back_len);
  free = tt;
}

pub each-smaller : goal.each-smaller
each-smaller c = shorter _ _ _ _ _ c.in-Some.ensures.within.0 c.in-Some.ensures.within.1 c.split_at-in-len1-up.ensures.back_len c.split_at-in-len1-up-2.ensures.back_len
  where
    shorter : (len at before behind after : ℕ) → 0 < len → len ≤ before → behind + len ≡ before → after + at ≡ behind → after < before
    shorter len at before behind after p w e f = omega arith

pub each-preserved : goal.each-preserved
each-preserved c =
    let e = ap toks c.in_ok-push.ensures.items ∙ map_push tok c.each.tokens.items _ in
    let gap = c.gap_behind-gap in
    let back : c.split_at-in-len1-up-2.result.1.now ≡ drop gap.result.at c.split_at-in-len1-up.result.1.now = c.split_at-in-len1-up-2.ensures.back in
    let s = goes_on _ c.each.rest.now c.split_at-in-len1-up.result.0.now c.split_at-in-len1-up.result.1.now c.split_at-in-len1-up-2.result.1.now _ _ _ _ c.in-Some.fit _ _ c.each.invariant.so_far c.in-Some.ensures.found c.in-Some.ensures.bad c.in-Some.ensures.within.1
    c.split_at-in-len1-up.ensures.front c.split_at-in-len1-up.ensures.back c.kind_of-kind.ensures refl (gap.ensures.exact ∙ ap (λ (x : List ℕ). place gap.result.line x) (sym back))
    (gap.ensures.ends ∙ ap (λ (x : List ℕ). ends_before (line_behind c.each.line c.split_at-in-len1-up.result.0.now) (place gap.result.line x)) (sym back)) in
    record {
      so_far = subst (λ (ts : List Tok). Stands c.args.bytes.now ts gap.result.line c.split_at-in-len1-up-2.result.1.now) (sym e) s;
      lines = omega (arith, c.each.invariant.lines, gap.ensures.lines, gap.ensures.within, c.split_at-in-len1-up.ensures.front_len, c.split_at-in-len1-up.ensures.back_len, c.split_at-in-len1-up-2.ensures.back_len, c.in-Some.ensures.within.1);
      free = free_on _ _ _ _ _ c.each.rest.now c.split_at-in-len1-up.result.1.now _ c.label_at-label.ensures.free c.split_at-in-len1-up.ensures.back c.split_at-in-len1-up-2.ensures.back c.saturating_sub.ensures c.saturating_sub-free.ensures;
    }
