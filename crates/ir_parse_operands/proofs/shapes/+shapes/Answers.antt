use Rattle.std.proofs.Common.{◌≡◌, ℕ, ◌*◌, ◌-◌, ◌≤◌, ◌<◌, Bool, not, List, [], ◌∷◌, ◌++◌, length, Ok, sym, ap, subst, ◌∙◌, arith}
use Rattle.ir_lex.specs.Tok.{Tok}
use Rattle.ir_parse_parts.specs.Alphabet.{among}
use Rattle.ir_parse_parts.specs.Readers.{Fails, folded}
use Rattle.ir_parse_parts.specs.Classes.{tokens}
use Rattle.ir_parse_parts.specs.declared.shape.Typed.{Typed}
use Rattle.ir_parse_parts.specs.MetadataAt.{COMMA}
use Rattle.ir_parse_parts.specs.Shapes.{Written, parts_of}
use Rattle.ir_parse_parts.proofs.Stars.{behind, takes}
use Rattle.ir_parse_operands.specs.declared.extents.Extent.{Extent}
use Rattle.ir_parse_operands.specs.declared.extents.Room.{Room}
use Rattle.ir_parse_operands.specs.Extents.{Fits, extent, extent_of, grown, left, members_extent, no_bytes}
use Rattle.ir_parse_operands.specs.ShapeFormsAt.{further_at, shape_at}
use Rattle.ir_parse_operands.proofs.ExtentLaws.{elements_fit, fits_most, grown_fits, one_member_more}
use Rattle.ir_parse_operands.proofs.Heads.{array_fails, array_gives, head_fails, leaf_is, structure_fails, structure_gives}
use Rattle.ir_parse_operands.proofs.Levels.{gives_as}
use Rattle.ir_parse_operands.proofs.Members.{no_longer, rest_at, rest_first, rest_on}
use Rattle.ir_parse_operands.proofs.ShapeRules.{SHAPE, member_rule, shape_rule}
use Rattle.ir_parse_operands.proofs.shapes.+shapes.Goals as goal

-- a shape takes a token
shape_shorter : (depth : ℕ) (room : Room) (ts rest : List Tok) (x : Typed) → shape_at depth room ts ≡ Ok (x, rest) → length rest < length ts
shape_shorter depth room ts rest x e = takes tokens (among tokens SHAPE) (shape_rule depth room).law ts rest x e

-- and so does a comma with one
shorter : (packed : Bool) (depth : ℕ) (room : Room) (s : Extent) (ts rest : List Tok) (x : Written × Extent) → further_at packed (λ s. shape_at depth (left packed room s)) s ts ≡ Ok (x, rest) → length rest < length ts
shorter packed depth room s ts rest x e = takes tokens (among tokens COMMA) (member_rule packed depth room s).law ts rest x e

below : (a b c : ℕ) → a ≤ b → b < c → a < c
below a b c h d = omega (arith, h, d)

pub inner_at-each-init : goal.inner_at-each-init
inner_at-each-init t c =
    let part = λ (s : Extent). shape_at c.args.depth (left c.args.packed c.args.room s) in
    record {
      read = ap (λ (x : List Written). folded behind x (rest_at c.args.packed part (not c.comes-more.result) c.no_members-members.result.extent c.args.tokens.now)) c.no_members-members.ensures.shapes
          ∙ ap (λ (s : Extent). folded behind [] (rest_at c.args.packed part (not c.comes-more.result) s c.args.tokens.now)) c.no_members-members.ensures.extent
          ∙ ap (λ (b : Bool). folded behind [] (rest_at c.args.packed part (not b) no_bytes c.args.tokens.now)) c.comes-more.ensures
          ∙ rest_first c.args.packed part c.args.tokens.now;
      measured = c.no_members-members.ensures.extent ∙ sym (ap (λ (x : List Written). members_extent c.args.packed no_bytes (parts_of x)) c.no_members-members.ensures.shapes);
      fits = subst (Fits c.args.room) (sym c.no_members-members.ensures.extent) c.requires.some;
    }

pub inner_at-each-smaller : goal.inner_at-each-smaller
inner_at-each-smaller t c = below _ _ _ (no_longer _ _ _ c.comma_at-more.ensures) (shape_shorter c.args.depth c.left.result _ _ _ c.in_ok-member.ensures.exact)

pub inner_at-each-preserved : goal.inner_at-each-preserved
inner_at-each-preserved t c =
    let part = λ (s : Extent). shape_at c.args.depth (left c.args.packed c.args.room s) in
    record {
      read = ap (λ (x : List Written). folded behind x (rest_at c.args.packed part c.comma_at-more.result c.in_ok-members.members.extent c.comma_at-more.new.tokens)) c.in_ok-members.ensures.shapes
          ∙ ap (λ (s : Extent). folded behind (c.each.members.shapes.items ++ c.in_ok-member.member.typed.shape ∷ []) (rest_at c.args.packed part c.comma_at-more.result s c.comma_at-more.new.tokens)) c.in_ok-members.ensures.extent
          ∙ rest_on c.args.packed part (shorter c.args.packed c.args.depth c.args.room) c.each.members.shapes.items c.each.members.extent c.each.tokens _ c.in_ok-member.member.typed c.comma_at-more.result _ _
          (ap (λ (r : Room). shape_at c.args.depth r c.each.tokens) (sym c.left.ensures.exact) ∙ c.in_ok-member.ensures.exact)
          c.comma_at-more.ensures
          (ap (λ (b : Bool). folded behind c.each.members.shapes.items (rest_at c.args.packed part b c.each.members.extent c.each.tokens)) (sym c.each-test.true) ∙ c.each.invariant.read);
      measured = c.in_ok-members.ensures.extent
          ∙ ap (λ (e : Extent). grown c.args.packed e (extent_of c.in_ok-member.member.typed.shape)) c.each.invariant.measured
          ∙ sym (one_member_more c.args.packed no_bytes c.each.members.shapes.items c.in_ok-member.member.typed.shape)
          ∙ ap (λ (x : List Written). members_extent c.args.packed no_bytes (parts_of x)) (sym c.in_ok-members.ensures.shapes);
      fits = subst (Fits c.args.room) (sym c.in_ok-members.ensures.extent) (grown_fits c.args.packed c.args.room c.each.members.extent (extent_of c.in_ok-member.member.typed.shape)
          (subst (Fits (left c.args.packed c.args.room c.each.members.extent)) c.in_ok-member.ensures.measured (subst (λ (r : Room). Fits r c.in_ok-member.member.extent) c.left.ensures.exact c.in_ok-member.ensures.fits)));
    }

pub shape_at-returns-then-not-comes_bracket-clause-exact : goal.shape_at-returns-then-not-comes_bracket-clause-exact
shape_at-returns-then-not-comes_bracket-clause-exact t c = gives_as _ _ _ _ (sym (leaf_is c.args.depth c.args.room c.args.tokens.now c.if-not-comes_bracket.ensures)) c.leaf_at.ensures.exact

pub shape_at-returns-in_err-line-clause-exact : goal.shape_at-returns-in_err-line-clause-exact
shape_at-returns-in_err-line-clause-exact t c =
    let f : Fails c.in_err-line.field-0.0 (shape_at c.args.depth c.args.room c.args.tokens.now) = head_fails c.args.depth c.args.room c.args.tokens.now c.if-not-comes_bracket.ensures c.in_err-line.field-0.0 c.in_err-line.ensures.exact in
    grind (arith, f)

pub shape_at-returns-in_err-element-in-Array-clause-exact : goal.shape_at-returns-in_err-element-in-Array-clause-exact
shape_at-returns-in_err-element-in-Array-clause-exact t c =
    let f : Fails c.in_err-element-in-Array.field-0.0 (shape_at c.args.depth c.args.room c.args.tokens.now) = array_fails c.args.depth c.args.room c.args.tokens.now c.if-not-comes_bracket.ensures c.in_ok-line.field-0 _ c.in_ok-line.ensures.exact c.in-Array.line c.in-Array.count c.in-Array.is c.in_err-element-in-Array.field-0.0
    (subst (λ (r : Room). Fails c.in_err-element-in-Array.field-0.0 (shape_at (c.args.depth - 1) r c.head_at.new.tokens)) c.shared.ensures.exact c.in_err-element-in-Array.ensures.exact) in
    grind (arith, f)

pub shape_at-closed_array_at-requires-clause-size : goal.shape_at-closed_array_at-requires-clause-size
shape_at-closed_array_at-requires-clause-size t c = fits_most c.args.room (extent (c.in-Array.count * c.in_ok-element-in-Array.element.extent.size) c.in_ok-element-in-Array.element.extent.align) c.requires (elements_fit c.in-Array.count c.args.room c.in_ok-element-in-Array.element.extent (subst (λ (r : Room). Fits r c.in_ok-element-in-Array.element.extent) c.shared.ensures.exact c.in_ok-element-in-Array.ensures.fits))

pub shape_at-returns-in_ok-element-in-Array-clause-exact : goal.shape_at-returns-in_ok-element-in-Array-clause-exact
shape_at-returns-in_ok-element-in-Array-clause-exact t c =
    gives_as _ _ _ _ (sym (array_gives c.args.depth c.args.room c.args.tokens.now c.if-not-comes_bracket.ensures c.in_ok-line.field-0 _ c.in_ok-line.ensures.exact c.in-Array.line c.in-Array.count c.in-Array.is c.in_ok-element-in-Array.element.typed _
    (ap (λ (r : Room). shape_at (c.args.depth - 1) r c.head_at.new.tokens) (sym c.shared.ensures.exact) ∙ c.in_ok-element-in-Array.ensures.exact))) c.closed_array_at.ensures.exact

pub shape_at-returns-in_ok-element-in-Array-clause-fits : goal.shape_at-returns-in_ok-element-in-Array-clause-fits
shape_at-returns-in_ok-element-in-Array-clause-fits t c = c.closed_array_at.ensures.fits c.args.room (elements_fit c.in-Array.count c.args.room c.in_ok-element-in-Array.element.extent (subst (λ (r : Room). Fits r c.in_ok-element-in-Array.element.extent) c.shared.ensures.exact c.in_ok-element-in-Array.ensures.fits))

pub shape_at-returns-in_err-members-in-Structure-clause-exact : goal.shape_at-returns-in_err-members-in-Structure-clause-exact
shape_at-returns-in_err-members-in-Structure-clause-exact t c =
    let f : Fails c.in_err-members-in-Structure.field-0.0 (shape_at c.args.depth c.args.room c.args.tokens.now) = structure_fails c.args.depth c.args.room c.args.tokens.now c.if-not-comes_bracket.ensures c.in_ok-line.field-0 _ c.in_ok-line.ensures.exact c.in-Structure.packed c.in-Structure.line c.in-Structure.is c.in_err-members-in-Structure.field-0.0 c.in_err-members-in-Structure.ensures.exact in
    grind (arith, f)

pub shape_at-returns-in_ok-members-in-Structure-clause-exact : goal.shape_at-returns-in_ok-members-in-Structure-clause-exact
shape_at-returns-in_ok-members-in-Structure-clause-exact t c =
    gives_as _ _ _ _ (sym (structure_gives c.args.depth c.args.room c.args.tokens.now c.if-not-comes_bracket.ensures c.in_ok-line.field-0 _ c.in_ok-line.ensures.exact c.in-Structure.packed c.in-Structure.line c.in-Structure.is c.in_ok-members-in-Structure.members.shapes.items _
    c.in_ok-members-in-Structure.ensures.exact)) c.closed_structure_at.ensures.exact

pub inner_at-with_member-requires-clause-before : goal.inner_at-with_member-requires-clause-before
inner_at-with_member-requires-clause-before t c = fits_most c.args.room c.each.members.extent c.requires c.each.invariant.fits

pub inner_at-with_member-requires-clause-more : goal.inner_at-with_member-requires-clause-more
inner_at-with_member-requires-clause-more t c = fits_most c.left.result c.in_ok-member.member.extent c.left.ensures.room c.in_ok-member.ensures.fits

pub shape_at-closed_structure_at-requires-clause-size : goal.shape_at-closed_structure_at-requires-clause-size
shape_at-closed_structure_at-requires-clause-size t c = fits_most c.args.room c.in_ok-members-in-Structure.members.extent c.requires c.in_ok-members-in-Structure.ensures.fits

pub shape_at-returns-in_ok-members-in-Structure-clause-fits : goal.shape_at-returns-in_ok-members-in-Structure-clause-fits
shape_at-returns-in_ok-members-in-Structure-clause-fits t c = c.closed_structure_at.ensures.fits c.args.room c.in_ok-members-in-Structure.ensures.fits

pub inner_at-returns-clause-exact : goal.inner_at-returns-clause-exact
inner_at-returns-clause-exact t c =
    sym c.each.invariant.read
    ∙ ap (λ (more : Bool). folded behind c.each.members.shapes.items (rest_at c.args.packed (λ s. shape_at c.args.depth (left c.args.packed c.args.room s)) more c.each.members.extent c.each.tokens)) c.each-test.false
