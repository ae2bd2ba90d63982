use Rattle.std.proofs.Common.{◌≡◌, ◌+◌, ◌∷◌, [], ℕ, ap, arith, length, length-append, rules, subst, sym}
use Rattle.lto_words.specs.Listing.{IsFirstBad, IsLink, lines_of}
use Rattle.lto_words.specs.declared.listing.ListedLink.{ListedLink}
use Rattle.lto_words.proofs.Lining.{all_read, bad_here, bad_more, good_more}
use Rattle.lto_words.proofs.listing.links.Goals as goal

pub returns : goal.returns
returns c = let none : length c.loop-rest.rest.now ≡ 0 = search rules in all_read c.args.bytes.now c.loop-rest.rest.now c.loop-rest.links none c.loop-rest.invariant.good

pub loop-rest-preserved : goal.loop-rest-preserved
loop-rest-preserved c =
    let bytes = c.args.bytes.now in
    let rest = c.loop-rest.rest.now in
    let line = c.first_line.result.0.now in
    let behind = c.first_line.result.1.now in
    let links = c.loop-rest.links in
    let link = c.in-Some.link in
    let is : IsLink (length links + 1) line link = subst (λ (n : ℕ). IsLink (n + 1) line link) c.len.ensures (rw c.in-Some.is at c.in_ok-link.ensures) in
    record {
      good = good_more bytes rest line behind links c.first_line.ensures.lines c.loop-rest.invariant.good link is _ c.in_ok-push.ensures.ok;
      bad = bad_more bytes rest line behind links c.first_line.ensures.lines c.loop-rest.invariant.bad link is _ c.in_ok-push.ensures.ok;
      few = omega (arith, is.0, ap length c.in_ok-push.ensures.ok, length-append links (link ∷ []));
    }

pub returns-in_default : goal.returns-in_default
returns-in_default c =
    let bytes = c.args.bytes.now in
    let line = c.first_line.result.0.now in
    let links = c.loop-rest.links in
    let none : (link : ListedLink) → IsLink (length links + 1) line link → ⊥ = subst (λ (n : ℕ). (link : ListedLink) → IsLink (n + 1) line link → ⊥) c.len.ensures (rw c.in_default.is at c.in_ok-link.ensures) in
    subst (λ (n : ℕ). IsFirstBad 1 (lines_of bytes) (n + 1)) (sym c.len-in_default.ensures)
    (bad_here bytes c.loop-rest.rest.now line c.first_line.result.1.now links c.first_line.ensures.lines c.loop-rest.invariant.bad none)

pub loop-rest-smaller : goal.loop-rest-smaller
loop-rest-smaller c = c.first_line.ensures.shorter
