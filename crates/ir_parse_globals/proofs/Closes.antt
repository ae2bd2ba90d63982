-- The parts of an initialiser that is read are closed.
use Rattle.std.proofs.Common.{◌≡◌, ℕ, suc, Bool, true, false, Option, Some, None, List, [], ◌∷◌, ◌++◌, length, refl, sym, ap, subst, inl, inr}
use Rattle.ir_lex.specs.Tok.{Tok}
use Rattle.ir_tree.specs.declared.operand.Reg.{Reg}
use Rattle.ir_parse_parts.specs.Chained.{Chain}
use Rattle.ir_parse_parts.specs.Forms as form
use Rattle.ir_parse_parts.specs.declared.raw.Init.{Init}
use Rattle.ir_parse_parts.specs.declared.raw.InitPart.{InitPart}
use Rattle.ir_parse_parts.specs.declared.raw.InitPart.TheVariants as init_parts
use Rattle.ir_parse_operands.specs.ShapeForms.{memory_shape}
use Rattle.ir_parse_globals.specs.Closed.{deeper, Close, IsClosed}
use Rattle.ir_parse_globals.specs.Initialisers.{aggregate_of, Spot, entered, begun, closed, piece, outermost, parts, behind, initialiser}
use Rattle.ir_parse_globals.specs.declared.initialisers.Aggregate.{Aggregate}

deeper_is : (o : Option Aggregate) (open_ones : List Aggregate) → suc (length (entered o open_ones).1) ≡ deeper o (suc (length open_ones))
deeper_is None open_ones = refl
deeper_is (Some a) open_ones = refl

begun_close : (first : Bool) (open_ones : List Aggregate) (front : List Tok) (p : InitPart) (next : Spot) (ps : List InitPart) → begun memory_shape first open_ones front (p, next) → Close (suc (length next.1)) ps → Close (suc (length open_ones)) (p ∷ ps)
unfolding begun form.◌>>=◌
begun_close first open_ones front p next ps (f, b, x, e, g, (n, d)) h =
    let typed : p ≡ init_parts.Typed x.0 x.1 = ap (λ (y : InitPart × Spot). y.0) d in
    let there : next ≡ entered (aggregate_of x.1) open_ones = ap (λ (y : InitPart × Spot). y.1) d in
    subst (λ (q : InitPart). Close (suc (length open_ones)) (q ∷ ps)) (sym typed) (subst (λ (m : ℕ). Close m ps) (deeper_is (aggregate_of x.1) open_ones) (subst (λ (s : Spot). Close (suc (length s.1)) ps) there h))

closed_close : (inner : Aggregate) (outer : List Aggregate) (front : List Tok) (p : InitPart) (next : Spot) (ps : List InitPart) → closed inner outer front (p, next) → Close (suc (length next.1)) ps → Close (suc (length (inner ∷ outer))) (p ∷ ps)
unfolding closed form.◌>>=◌
closed_close inner outer front p next ps (f, b, x, e, g, (n, d)) h =
    let ends : p ≡ init_parts.End = ap (λ (y : InitPart × Spot). y.0) d in
    let there : next ≡ (false, outer) = ap (λ (y : InitPart × Spot). y.1) d in
    subst (λ (q : InitPart). Close (suc (length (inner ∷ outer))) (q ∷ ps)) (sym ends) (subst (λ (s : Spot). Close (suc (length s.1)) ps) there h)

piece_close : (first : Bool) (open_ones : List Aggregate) (front : List Tok) (p : InitPart) (next : Spot) (ps : List InitPart) → piece memory_shape first open_ones front (p, next) → Close (suc (length next.1)) ps → Close (suc (length open_ones)) (p ∷ ps)
unfolding form.either
piece_close first [] front p next ps s h = begun_close first [] front p next ps s h
piece_close first (inner ∷ outer) front p next ps (inl s) h = closed_close inner outer front p next ps s h
piece_close first (inner ∷ outer) front p next ps (inr s) h = begun_close first (inner ∷ outer) front p next ps s h

abbrev chained : Spot → List Tok → List InitPart → Type 0
chained = Chain outermost (λ s. piece memory_shape s.0 s.1)

listed_close : (first : Bool) (open_ones : List Aggregate) (ts : List Tok) (ps : List InitPart) → chained (first, open_ones) ts ps → Close (suc (length open_ones)) (ps ++ init_parts.End ∷ [])
listed_close first [] ts [] c = tt
listed_close first (inner ∷ outer) ts [] c = absurd (never c.0)
  where
    never : false ≡ true → ⊥
    never e = cc
listed_close first open_ones ts (p ∷ ps) (front, back, next, e, s, c) = piece_close first open_ones front p next (ps ++ init_parts.End ∷ []) s (listed_close next.0 next.1 back ps c)

parts_close : (whole : Aggregate) (ts : List Tok) (ps : List InitPart) → parts memory_shape whole ts ps → Close 1 ps
unfolding parts form.◌>>=◌
parts_close whole ts ps (f, b, qs, e, c, (f', b', u, e', g, (n, d))) = subst (λ (rs : List InitPart). Close 1 rs) (sym d) (listed_close true [] f qs c)

behind_close : (whole : Option Aggregate) (ts : List Tok) (ps : List InitPart) → behind memory_shape whole ts ps → Close (deeper whole 0) ps
behind_close None ts ps (n, d) = subst (λ (rs : List InitPart). Close 0 rs) (sym d) tt
behind_close (Some whole) ts ps s = parts_close whole ts ps s

pub initialiser_close : (scalar : Option Reg) (ts : List Tok) (i : Init) → initialiser memory_shape scalar ts i → IsClosed i
unfolding initialiser form.◌>>=◌
initialiser_close scalar ts i (f, b, root, e, g, (f', b', ps, e', s, (n, d))) = subst (λ (j : Init). IsClosed j) (sym d) (behind_close (aggregate_of root) f' ps s)
