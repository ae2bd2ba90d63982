-- Printed initialisers are read, nested as deep as they may be: the flat list of a tree is the list that is read (LangRef,
-- "Complex Constants").
use Rattle.std.proofs.Common.{◌≡◌, ℕ, Bool, true, false, Option, Some, None, List, [], ◌∷◌, ◌++◌, codes, refl, sym, ap, subst, ◌∙◌, append_assoc}
use Rattle.ir_parse_globals.specs.Initialisers as read
use Rattle.ir_parse_globals.specs.Initialisers.{BYTES, scalar_of, array_begin, structure_begin, packed_begin, aggregate_begin, beginning, aggregate_of, closing_refusal, brace, Spot, entered, part, begun, closed, piece, outermost, is_none, initialiser}
use Rattle.ir_parse_globals.specs.declared.initialisers.Aggregate.{Aggregate}
use Rattle.ir_parse_globals.specs.declared.initialisers.Aggregate.TheVariants as aggregates
use Rattle.ir_lex.specs.TokenKinds.{number, kind_of, mark_kind, word_kind, listed_kind, words_15}
use Rattle.ir_lex.specs.Pieces.{Piece}
use Rattle.ir_lex.specs.declared.token_kind.TokenKind.TheVariants as kinds
use Rattle.ir_lex.specs.declared.token.TokenForm.TheVariants as forms
use Rattle.ir_print.specs.Operands.{operand}
use Rattle.ir_print.specs.Tokens.{tight, space, mark, word, byte_string, closed as closed_text}
use Rattle.ir_print.specs.Variables as printed
use Rattle.ir_print.specs.Variables.{level_of, opening, closing_brace, value, parts_in}
use Rattle.ir_print.specs.declared.level.Level.{Level}
use Rattle.ir_print.specs.declared.level.Level.TheVariants as levels
use Rattle.ir_parse_parts.specs.Classes.{refusal, the}
use Rattle.ir_parse_operands.specs.ShapeForms.{memory_shape, angle_refusal, brace_behind_angle}
use Rattle.ir_parse_parts.specs.Shapes.{Written}
use Rattle.ir_parse_parts.specs.declared.raw.InitHead as raw_head
use Rattle.ir_parse_parts.specs.declared.raw.InitHead.TheVariants as rh
use Rattle.ir_parse_parts.specs.declared.raw.InitPart as raw_part
use Rattle.ir_parse_parts.specs.declared.raw.InitPart.TheVariants as rp
use Rattle.ir_tree.specs.Forms.{Form}
use Rattle.ir_tree.specs.Initials.{Initial, Initials, plain, zeros, bytes, elements, members, no_initials, initial, head_of as tree_head, parts_of, all_parts}
use Rattle.ir_tree.specs.declared.init_node.InitHead.TheVariants.{Plain}
use Rattle.ir_tree.specs.declared.init_node.InitPart.{InitPart}
use Rattle.ir_tree.specs.declared.init_node.InitPart.TheVariants.{Typed, End}
use Rattle.ir_tree.specs.declared.operand.Operand.{Operand}
use Rattle.ir_parse_parts.specs.Chained.{Chain}
use Rattle.ir_round_trip.specs.Variables.{IsInitHead, IsInitPart, IsInit}
use Rattle.ir_round_trip.specs.VariablesReadable.{InitialReadable, InitialsReadable}
use Rattle.ir_round_trip.proofs.Constants.{constant_read}
use Rattle.ir_round_trip.specs.PartsPrinted.{Paired, written_shape}
use Rattle.ir_round_trip.specs.PartsReadable.{ShapeReadable}
use Rattle.ir_round_trip.specs.Reads.{Parses, Any}
use Rattle.ir_round_trip.proofs.Composed.{then, next, last, nothing, known_as, left, right, chain_ends, chain_goes_on}
use Rattle.ir_round_trip.proofs.Rooms.{memory_shape_read}
use Rattle.ir_round_trip.proofs.Tokens.{single, by_class, by_classes, the_read}
use Rattle.ir_round_trip.proofs.Words.{comma_read, open_bracket_read, open_brace_read, close_angle_read}

-- ---- what an initialiser begins with

-- the aggregate that it opens, if it is one
abbrev begins : Initial → Option Aggregate
begins (plain x) = None
begins zeros = None
begins (bytes text) = None
begins (elements parts) = Some aggregates.Array
begins (members packed parts) = Some (aggregates.Struct packed)

-- its pieces before its parts
abbrev begin_pieces : Initial → List Piece
begin_pieces (plain x) = operand space x
begin_pieces zeros = word space (codes "zeroinitializer")
begin_pieces (bytes text) = byte_string space text
begin_pieces (elements parts) = opening levels.Array
begin_pieces (members packed parts) = opening (level_of packed)

abbrev Begins : Initial → raw_head.InitHead → Type 0
Begins v h = IsInitHead (tree_head v) h × (aggregate_of h ≡ begins v)

zeros_read : Parses read.zeros (λ h. h ≡ rh.Zeros) (word space (codes "zeroinitializer"))
unfolding read.zeros kind_of word_kind listed_kind words_15
zeros_read = last (the_read kinds.ZeroInitializer space forms.Word _ _ refl) (λ a u. nothing refl)

bytes_class : (text : List ℕ) → number (kind_of forms.CStr text []) ≡ number kinds.CStr
unfolding kind_of
bytes_class text = refl

bytes_read : (text : List ℕ) → Parses read.bytes (Begins (bytes text)) (byte_string space text)
unfolding read.bytes kind_of
bytes_read text = single space forms.CStr _ _ (by_classes refusal BYTES (λ t. rh.Bytes t) forms.CStr (99 ∷ 34 ∷ closed_text text) refl (λ t i. (record { form = i.form; text = i.text }, refl)))

open_angle_read : Parses (the kinds.OpenAngle) Any (mark space 60)
unfolding kind_of mark_kind
open_angle_read = the_read kinds.OpenAngle space forms.Other 60 [] refl

brace_read : Parses brace_behind_angle Any (mark tight 123)
unfolding kind_of mark_kind
brace_read = single tight forms.Other 123 [] (by_class angle_refusal kinds.OpenBrace forms.Other (123 ∷ []) refl)

array_read : (vs : Initials) → Parses aggregate_begin (Begins (elements vs)) (opening levels.Array)
unfolding aggregate_begin array_begin
array_read vs = left _ (last (open_bracket_read space) (λ a u. nothing (tt, refl)))

structure_read : (packed : Bool) (vs : Initials) → Parses aggregate_begin (Begins (members packed vs)) (opening (level_of packed))
unfolding aggregate_begin structure_begin packed_begin
structure_read false vs = right _ (left _ (last (open_brace_read space) (λ a u. nothing (refl, refl))))
structure_read true vs = right _ (right _ (then open_angle_read (λ a u. last brace_read (λ b v. nothing (refl, refl)))))

plain_begins : (x : Operand) (h : raw_head.InitHead) → IsInitHead (Plain x) h → Begins (plain x) h
plain_begins x (rh.Plain y) p = (p, refl)
plain_begins x rh.Zeros p = absurd p
plain_begins x (rh.Bytes text) p = absurd p
plain_begins x (rh.Number t) p = absurd p
plain_begins x rh.Array p = absurd p
plain_begins x (rh.Struct packed) p = absurd p

beginning_read : (f : Form) (v : Initial) → InitialReadable f v → Parses (beginning memory_shape (scalar_of (written_shape f))) (Begins v) (begin_pieces v)
unfolding beginning
beginning_read f (plain x) h = right _ (right _ (right _ (known_as (Begins (plain x)) (λ y p. plain_begins x y p) (constant_read (scalar_of (written_shape f)) space x h))))
beginning_read f zeros h = left _ (known_as (Begins zeros) (λ x e. subst (Begins zeros) (sym e) (tt, refl)) zeros_read)
beginning_read f (bytes text) h = right _ (left _ (bytes_read text))
beginning_read f (elements vs) h = right _ (right _ (left _ (array_read vs)))
beginning_read f (members packed vs) h = right _ (right _ (left _ (structure_read packed vs)))

-- ---- what closes an aggregate

abbrev aggregate_at : Level → Aggregate
aggregate_at levels.Array = aggregates.Array
aggregate_at levels.Struct = aggregates.Struct false
aggregate_at levels.PackedStruct = aggregates.Struct true

brace_closed : (first none : Bool) → Parses (read.mark first kinds.CloseBrace) Any (closing_brace none)
unfolding kind_of mark_kind
brace_closed first true = single tight forms.Other 125 [] (by_class (closing_refusal first) kinds.CloseBrace forms.Other (125 ∷ []) refl)
brace_closed first false = single space forms.Other 125 [] (by_class (closing_refusal first) kinds.CloseBrace forms.Other (125 ∷ []) refl)

closing_read : (first : Bool) (level : Level) (none : Bool) → Parses (read.closing first (aggregate_at level)) Any (printed.closing level none)
unfolding brace kind_of mark_kind
closing_read first levels.Array none = single tight forms.Other 93 [] (by_class (closing_refusal first) kinds.CloseBracket forms.Other (93 ∷ []) refl)
closing_read first levels.Struct none = last (brace_closed first none) (λ a u. nothing tt)
closing_read first levels.PackedStruct none = then (brace_closed first none) (λ a u. close_angle_read tight)

-- ---- parts

part_shape_read : (level : Level) (first : Bool) (f : Form) → ShapeReadable f → Parses (read.part_shape memory_shape first) (λ t. t.shape ≡ written_shape f) (printed.part_shape level first f)
part_shape_read levels.Array true f h = memory_shape_read tight f h
part_shape_read levels.Struct true f h = memory_shape_read space f h
part_shape_read levels.PackedStruct true f h = memory_shape_read space f h
part_shape_read level false f h = then comma_read (λ a u. memory_shape_read space f h)

-- a part up to its own parts
abbrev IsBegun : Form → Initial → List Aggregate → raw_part.InitPart × Spot → Type 0
IsBegun f v open_ones x = IsInitPart (Typed f (tree_head v)) x.0 × (x.1 ≡ entered (begins v) open_ones)

begun_read : (level : Level) (first : Bool) (open_ones : List Aggregate) (f : Form) (v : Initial) → ShapeReadable f → InitialReadable f v
    → Parses (begun memory_shape first open_ones) (IsBegun f v open_ones) (printed.part_shape level first f ++ begin_pieces v)
unfolding begun part
begun_read level first open_ones f v s h =
    last {P = λ p. (p.0.shape ≡ written_shape f) × Begins v p.1} (then (part_shape_read level first f s) (λ typed e.
    last (subst (λ (w : Written). Parses (beginning memory_shape (scalar_of w)) (Begins v) (begin_pieces v)) (sym e) (beginning_read f v h)) (λ head p. nothing (e, p))))
    (λ p q. nothing ((q.0, q.1.0), ap (λ (a : Option Aggregate). entered a open_ones) q.1.1))

-- wherever a part may stand
somewhere : (first : Bool) (open_ones : List Aggregate) {P : raw_part.InitPart × Spot → Type 0} {ps : List Piece} → Parses (begun memory_shape first open_ones) P ps → Parses (piece memory_shape first open_ones) P ps
somewhere first [] r = r
somewhere first (a ∷ more) r = right _ r

abbrev ReadsParts : Bool → List Aggregate → List InitPart → List Piece → Type 0
ReadsParts first open_ones parts ps = Parses (Chain outermost (λ s. piece memory_shape s.0 s.1) (first, open_ones)) (Paired IsInitPart parts) ps

-- a part, behind which others are read
goes_on : (level : Level) (first : Bool) (open_ones : List Aggregate) (f : Form) (v : Initial) → ShapeReadable f → InitialReadable f v → (parts : List InitPart) (ps : List Piece)
    → Parses (Chain outermost (λ s. piece memory_shape s.0 s.1) (entered (begins v) open_ones)) (Paired IsInitPart parts) ps
    → ReadsParts first open_ones (Typed f (tree_head v) ∷ parts) ((printed.part_shape level first f ++ begin_pieces v) ++ ps)
goes_on level first open_ones f v s h parts ps r =
    chain_goes_on outermost (λ s. piece memory_shape s.0 s.1) (first, open_ones) (entered (begins v) open_ones) (somewhere first open_ones (begun_read level first open_ones f v s h)) r (λ a more p q. (p, q))

-- brackets about a value's pieces: those before its parts, and its parts with what closes them
as_leaf : (open_ones : List Aggregate) (parts : List InitPart) (level : Level) (first : Bool) (f : Form) (v : Initial) (ps : List Piece)
    → ReadsParts first open_ones parts ((printed.part_shape level first f ++ begin_pieces v) ++ ps) → ReadsParts first open_ones parts (printed.part_shape level first f ++ (begin_pieces v ++ ps))
as_leaf open_ones parts level first f v ps r = subst (λ (qs : List Piece). ReadsParts first open_ones parts qs) (append_assoc (printed.part_shape level first f) (begin_pieces v) ps) r

as_aggregate : (open_ones : List Aggregate) (parts : List InitPart) (level : Level) (first : Bool) (f : Form) (v : Initial) (own ps : List Piece)
    → ReadsParts first open_ones parts ((printed.part_shape level first f ++ begin_pieces v) ++ (own ++ ps)) → ReadsParts first open_ones parts (printed.part_shape level first f ++ ((begin_pieces v ++ own) ++ ps))
as_aggregate open_ones parts level first f v own ps r =
    subst (λ (qs : List Piece). ReadsParts first open_ones parts qs)
    (append_assoc (printed.part_shape level first f) (begin_pieces v) (own ++ ps) ∙ ap (λ (qs : List Piece). printed.part_shape level first f ++ qs) (sym (append_assoc (begin_pieces v) own ps))) r

mutual
  unfolding closed

  value_read : (level : Level) (first : Bool) (open_ones : List Aggregate) (f : Form) (v : Initial) → ShapeReadable f → InitialReadable f v → (rest : List InitPart) (ps : List Piece)
      → ReadsParts false open_ones rest ps → ReadsParts first open_ones (Typed f (tree_head v) ∷ parts_of v rest) (printed.part_shape level first f ++ (value v ++ ps))
  value_read level first open_ones f (plain x) s h rest ps r = as_leaf open_ones (Typed f (tree_head (plain x)) ∷ parts_of (plain x) rest) level first f (plain x) ps (goes_on level first open_ones f (plain x) s h rest ps r)
  value_read level first open_ones f zeros s h rest ps r = as_leaf open_ones (Typed f (tree_head zeros) ∷ parts_of zeros rest) level first f zeros ps (goes_on level first open_ones f zeros s h rest ps r)
  value_read level first open_ones f (bytes text) s h rest ps r = as_leaf open_ones (Typed f (tree_head (bytes text)) ∷ parts_of (bytes text) rest) level first f (bytes text) ps (goes_on level first open_ones f (bytes text) s h rest ps r)
  value_read level first open_ones f (elements vs) s h rest ps r =
      as_aggregate open_ones (Typed f (tree_head (elements vs)) ∷ parts_of (elements vs) rest) level first f (elements vs) (parts_in levels.Array true vs) ps
      (goes_on level first open_ones f (elements vs) s h _ _ (parts_read levels.Array true open_ones vs h rest ps r))
  value_read level first open_ones f (members false vs) s h rest ps r =
      as_aggregate open_ones (Typed f (tree_head (members false vs)) ∷ parts_of (members false vs) rest) level first f (members false vs) (parts_in levels.Struct true vs) ps
      (goes_on level first open_ones f (members false vs) s h _ _ (parts_read levels.Struct true open_ones vs h rest ps r))
  value_read level first open_ones f (members true vs) s h rest ps r =
      as_aggregate open_ones (Typed f (tree_head (members true vs)) ∷ parts_of (members true vs) rest) level first f (members true vs) (parts_in levels.PackedStruct true vs) ps
      (goes_on level first open_ones f (members true vs) s h _ _ (parts_read levels.PackedStruct true open_ones vs h rest ps r))

  -- the parts that are left of an aggregate, and its end
  parts_read : (level : Level) (first : Bool) (open_ones : List Aggregate) (vs : Initials) → InitialsReadable vs → (rest : List InitPart) (ps : List Piece)
      → ReadsParts false open_ones rest ps → ReadsParts first (aggregate_at level ∷ open_ones) (all_parts vs (End ∷ rest)) (parts_in level first vs ++ ps)
  parts_read level first open_ones no_initials h rest ps r =
      chain_goes_on outermost (λ s. piece memory_shape s.0 s.1) (first, aggregate_at level ∷ open_ones) (false, open_ones) (left _ (last (closing_read false level first) (λ a u. nothing (tt, refl)))) r (λ a more p q. (p, q))
  parts_read level first open_ones (initial f v vs) h rest ps r =
      subst (λ (qs : List Piece). ReadsParts first (aggregate_at level ∷ open_ones) (all_parts (initial f v vs) (End ∷ rest)) qs)
      (sym (append_assoc (printed.part_shape level first f) (value v ++ parts_in level false vs) ps ∙ ap (λ (qs : List Piece). printed.part_shape level first f ++ qs) (append_assoc (value v) (parts_in level false vs) ps)))
      (value_read level first (aggregate_at level ∷ open_ones) f v h.0 h.1 (all_parts vs (End ∷ rest)) (parts_in level false vs ++ ps) (parts_read level false open_ones vs h.2 rest ps r))

-- ---- whole initialisers

-- the parts without what closes the whole
abbrev inner : Level → Bool → Initials → List Piece
inner level first no_initials = []
inner level first (initial f v vs) = printed.part_shape level first f ++ (value v ++ inner level false vs)

-- what closes the whole knows whether there is a part
abbrev ends_bare : Bool → Initials → Bool
ends_bare first no_initials = first
ends_bare first (initial f v vs) = ends_bare false vs

closed_pieces : (level : Level) (first : Bool) (vs : Initials) → parts_in level first vs ≡ inner level first vs ++ printed.closing level (ends_bare first vs)
closed_pieces level first no_initials = refl
closed_pieces level first (initial f v vs) =
    let rest : List Piece = printed.closing level (ends_bare false vs) in
    ap (λ (qs : List Piece). printed.part_shape level first f ++ (value v ++ qs)) (closed_pieces level false vs)
    ∙ ap (λ (qs : List Piece). printed.part_shape level first f ++ qs) (sym (append_assoc (value v) (inner level false vs) rest))
    ∙ sym (append_assoc (printed.part_shape level first f) (value v ++ inner level false vs) rest)

inner_read : (level : Level) (first : Bool) (vs : Initials) → InitialsReadable vs → ReadsParts first [] (all_parts vs []) (inner level first vs)
inner_read level first no_initials h = chain_ends outermost (λ s. piece memory_shape s.0 s.1) (first, []) refl tt
inner_read level first (initial f v vs) h = value_read level first [] f v h.0 h.1 (all_parts vs []) (inner level false vs) (inner_read level false vs h.2)

mutual
  parts_behind : (v : Initial) (xs ys : List InitPart) → parts_of v (xs ++ ys) ≡ parts_of v xs ++ ys
  parts_behind (plain x) xs ys = refl
  parts_behind zeros xs ys = refl
  parts_behind (bytes text) xs ys = refl
  parts_behind (elements vs) xs ys = all_behind vs (End ∷ xs) ys
  parts_behind (members packed vs) xs ys = all_behind vs (End ∷ xs) ys

  all_behind : (vs : Initials) (xs ys : List InitPart) → all_parts vs (xs ++ ys) ≡ all_parts vs xs ++ ys
  all_behind no_initials xs ys = refl
  all_behind (initial f v vs) xs ys = ap (λ (ps : List InitPart). Typed f (tree_head v) ∷ ps) (ap (parts_of v) (all_behind vs xs ys) ∙ parts_behind v (all_parts vs xs) ys)

paired_behind : {A B : Type 0} (R : A → B → Type 0) (as' cs : List A) (bs ds : List B) → Paired R as' bs → Paired R cs ds → Paired R (as' ++ cs) (bs ++ ds)
paired_behind R [] cs [] ds p q = q
paired_behind R [] cs (b ∷ bs) ds p q = absurd p
paired_behind R (a ∷ as') cs [] ds p q = absurd p
paired_behind R (a ∷ as') cs (b ∷ bs) ds p q = (p.0, paired_behind R as' cs bs ds p.1 q)

-- behind the beginning of an aggregate
whole_parts_read : (level : Level) (vs : Initials) → InitialsReadable vs → Parses (read.parts memory_shape (aggregate_at level)) (Paired IsInitPart (all_parts vs (End ∷ []))) (parts_in level true vs)
unfolding read.parts
whole_parts_read level vs h =
    subst (λ (qs : List Piece). Parses (read.parts memory_shape (aggregate_at level)) (Paired IsInitPart (all_parts vs (End ∷ []))) qs) (sym (closed_pieces level true vs))
    (then (inner_read level true vs h) (λ ps p. last (closing_read (is_none ps) level (ends_bare true vs)) (λ a u. nothing
    (subst (λ (parts : List InitPart). Paired IsInitPart parts (ps ++ rp.End ∷ [])) (sym (all_behind vs [] (End ∷ []))) (paired_behind IsInitPart (all_parts vs []) (End ∷ []) ps (rp.End ∷ []) p (tt, tt))))))

-- one that opens no aggregate has no parts
leaf_read : (f : Form) (v : Initial) → begins v ≡ None → parts_of v [] ≡ [] → InitialReadable f v → Parses (initialiser memory_shape (scalar_of (written_shape f))) (IsInit v) (begin_pieces v)
unfolding initialiser
leaf_read f v none empty h =
    last (beginning_read f v h) (λ i p. next _ (subst (λ (a : Option Aggregate). Parses (read.behind memory_shape a) (λ ps. ps ≡ []) []) (sym (p.1 ∙ none)) (nothing refl))
    (nothing (record { root = p.0; parts = subst (λ (parts : List InitPart). Paired IsInitPart parts []) (sym empty) tt })))

aggregate_read : (f : Form) (v : Initial) (level : Level) (vs : Initials) → begins v ≡ Some (aggregate_at level) → parts_of v [] ≡ all_parts vs (End ∷ []) → InitialsReadable vs → InitialReadable f v
    → Parses (initialiser memory_shape (scalar_of (written_shape f))) (IsInit v) (begin_pieces v ++ parts_in level true vs)
unfolding initialiser
aggregate_read f v level vs some parts_are hs h =
    then (beginning_read f v h) (λ i p. last (subst (λ (a : Option Aggregate). Parses (read.behind memory_shape a) (Paired IsInitPart (all_parts vs (End ∷ []))) (parts_in level true vs)) (sym (p.1 ∙ some)) (whole_parts_read level vs hs))
    (λ ps q. nothing (record { root = p.0; parts = subst (λ (parts : List InitPart). Paired IsInitPart parts ps) (sym parts_are) q })))

pub initialiser_read : (f : Form) (v : Initial) → InitialReadable f v → Parses (initialiser memory_shape (scalar_of (written_shape f))) (IsInit v) (value v)
initialiser_read f (plain x) h = leaf_read f (plain x) refl refl h
initialiser_read f zeros h = leaf_read f zeros refl refl h
initialiser_read f (bytes text) h = leaf_read f (bytes text) refl refl h
initialiser_read f (elements vs) h = aggregate_read f (elements vs) levels.Array vs refl refl h h
initialiser_read f (members false vs) h = aggregate_read f (members false vs) levels.Struct vs refl refl h h
initialiser_read f (members true vs) h = aggregate_read f (members true vs) levels.PackedStruct vs refl refl h h
