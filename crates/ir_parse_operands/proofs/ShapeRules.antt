-- The readers of shapes read them.
use Rattle.std.proofs.Common.{◌≡◌, ℕ, zero, suc, ◌+◌, Bool, true, false, cond, ◌||◌, ◌⊎◌, inl, inr, List, [], ◌∷◌, Ok, Err, refl, sym, ap, subst, arith}
use Rattle.std.specs.Prelude.{codes}
use Rattle.ir_lex.specs.declared.token_kind.TokenKind.TheVariants as kinds
use Rattle.ir_lex.specs.TokenKinds.{number}
use Rattle.ir_lex.specs.Tok.{Tok}
use Rattle.ir_parse_parts.specs.Alphabet.{among, contains}
use Rattle.ir_parse_parts.specs.Chained.{Chain, chain_at}
use Rattle.ir_parse_parts.specs.Forms as form
use Rattle.ir_parse_parts.specs.Forms.{Form, either}
use Rattle.ir_parse_parts.specs.Readers.{Reader}
use Rattle.ir_parse_parts.specs.Rules.{Rule, Opens, is_among, subset}
use Rattle.ir_parse_parts.proofs.Chains.{chain_lawful}
use Rattle.ir_parse_parts.proofs.Composed.{Begun, same_form, widened}
use Rattle.ir_parse_parts.proofs.Rules as rules
use Rattle.ir_parse_parts.proofs.Rules.{apart_from, within_of}
use Rattle.ir_parse_parts.specs.Ahead.{BRACKETS}
use Rattle.ir_parse_parts.specs.Classes.{tokens, refusal, one_of}
use Rattle.ir_parse_operands.specs.declared.extents.Extent.{Extent}
use Rattle.ir_parse_operands.specs.declared.extents.Room.{Room}
use Rattle.ir_parse_parts.specs.declared.shape.Typed.{Typed}
use Rattle.ir_parse_operands.specs.Extents.{shared, left, no_bytes, whole}
use Rattle.ir_parse_parts.specs.MetadataAt.{COMMA}
use Rattle.ir_parse_parts.specs.Operands.{SCALAR}
use Rattle.ir_parse_operands.specs.ShapeForms.{line_of, leaf, NUMBER, OPEN_BRACKET, OPEN_BRACE, OPEN_ANGLE, elements, array_of, anywhere, further, more_members, members, structure_of, packed_behind, packed_of, shape_over, shape, levels, any_shape, memory_shape}
use Rattle.ir_parse_operands.specs.ShapeFormsAt.{CLOSE_BRACE, leaf_at, innermost_at, begins, elements_at, array_at, further_at, more_members_at, members_at, structure_at, packed_behind_at, packed_at, shape_over_at, shape_at, memory_shape_at}
use Rattle.ir_parse_parts.specs.Shapes.{Written}
use Rattle.ir_parse_operands.proofs.Barred.{barred_here}
use Rattle.ir_parse_operands.proofs.LeafRules.{LEAF, leaf_rule, count_rule, times_rule, brace_behind_angle_rule}
use Rattle.ir_parse_parts.proofs.Singles.{mark, one_rule, one_opens, comma_rule, close_bracket_rule, close_brace_rule, close_angle_rule, open_bracket_real, open_brace_real, open_angle_real}
use Rattle.ir_parse_operands.proofs.Subforms.{Sub, itself, then_sub, either_sub}

-- what a shape begins with
abbrev pub SHAPE : List ℕ
SHAPE = number kinds.OpenBracket ∷ number kinds.OpenBrace ∷ number kinds.OpenAngle ∷ number kinds.Local ∷ SCALAR

-- ---- arrays and structures, over rules for their parts

elements_rule : (g : ℕ → Form Tok Typed) (w : Form Tok Typed) (f : ℕ → Reader Tok Typed) → ((n : ℕ) → Rule tokens (g n) w (f n) SHAPE [] false) → (line : ℕ) → Rule tokens (elements g line) (elements (λ _. w) line) (elements_at f line) NUMBER [] false
unfolding elements elements_at
elements_rule g w f laws line = rules.seq tokens count_rule (λ n. rules.seq tokens times_rule (λ _. rules.seq tokens (laws n) (λ _. rules.seq tokens close_bracket_rule (λ _. rules.nothing tokens _) refl) refl) refl) refl

array_rule : (g : ℕ → Form Tok Typed) (w : Form Tok Typed) (f : ℕ → Reader Tok Typed) → ((n : ℕ) → Rule tokens (g n) w (f n) SHAPE [] false) → Rule tokens (array_of g) (array_of (λ _. w)) (array_at f) OPEN_BRACKET [] false
unfolding array_of array_at
array_rule g w f laws = rules.seq tokens (one_rule OPEN_BRACKET line_of (mark kinds.OpenBracket (codes "[")) refl open_bracket_real) (λ line. elements_rule g w f laws line) refl

further_rule : (packed : Bool) (g : Extent → Form Tok Typed) (w : Form Tok Typed) (f : Extent → Reader Tok Typed) → ((s : Extent) → Rule tokens (g s) w (f s) SHAPE [] false) → (s : Extent) → Rule tokens (further packed g s) (further packed (λ _. w) s) (further_at packed f s) COMMA [] false
unfolding further further_at
further_rule packed g w f laws s = rules.seq tokens comma_rule (λ _. rules.seq tokens (laws s) (λ _. rules.nothing tokens _) refl) refl

chained_rule : (packed : Bool) (g : Extent → Form Tok Typed) (w : Form Tok Typed) (f : Extent → Reader Tok Typed) → ((s : Extent) → Rule tokens (g s) w (f s) SHAPE [] false) → (s : Extent) → Rule tokens (Chain anywhere (further packed g) s) (Chain anywhere (further packed (λ _. w)) s) (chain_at anywhere begins (further_at packed f) s) COMMA COMMA true
chained_rule packed g w f laws s = record {
  law = chain_lawful tokens anywhere begins begins (λ _. among tokens []) (among tokens COMMA) (further packed g) (further packed (λ _. w)) (further_at packed f) (λ s. (further_rule packed g w f laws s).law) (λ s t u n m. ap (contains COMMA) (sym m)) (λ s t d e. e)
      (λ s next front a p t q r. apart_from [] COMMA refl (number t.kind) q r)
      (λ s t p. within_of [] COMMA refl (number t.kind) p)
      (λ s t d p. p)
      (λ s. ([], [], (refl, refl), tt)) s;
}

more_members_rule : (packed : Bool) (g : Extent → Form Tok Typed) (w : Form Tok Typed) (f : Extent → Reader Tok Typed) → ((s : Extent) → Rule tokens (g s) w (f s) SHAPE [] false) → (first : Written) → Rule tokens (more_members packed g first) (more_members packed (λ _. w) first) (more_members_at packed f first) (number kinds.Comma ∷ CLOSE_BRACE) [] false
unfolding more_members more_members_at
more_members_rule packed g w f laws first = rules.seq tokens (chained_rule packed g w f laws _) (λ more. rules.seq tokens close_brace_rule (λ _. rules.nothing tokens _) refl) refl

members_rule : (packed : Bool) (g : Extent → Form Tok Typed) (w : Form Tok Typed) (f : Extent → Reader Tok Typed) → ((s : Extent) → Rule tokens (g s) w (f s) SHAPE [] false) → Rule tokens (members packed g) (members packed (λ _. w)) (members_at packed f) (number kinds.CloseBrace ∷ SHAPE) [] false
unfolding members members_at
members_rule packed g w f laws = rules.alt tokens CLOSE_BRACE (rules.seq tokens close_brace_rule (λ _. rules.nothing tokens _) refl) (rules.seq tokens (laws no_bytes) (λ first. more_members_rule packed g w f laws first.shape) refl) refl refl

structure_rule : (g : Extent → Form Tok Typed) (w : Form Tok Typed) (f : Extent → Reader Tok Typed) → ((s : Extent) → Rule tokens (g s) w (f s) SHAPE [] false) → Rule tokens (structure_of g) (structure_of (λ _. w)) (structure_at f) OPEN_BRACE [] false
unfolding structure_of structure_at
structure_rule g w f laws = rules.seq tokens (one_rule OPEN_BRACE line_of (mark kinds.OpenBrace (codes "{")) refl open_brace_real) (λ line. rules.seq tokens (members_rule false g w f laws) (λ parts. rules.nothing tokens _) refl) refl

packed_behind_rule : (g : Extent → Form Tok Typed) (w : Form Tok Typed) (f : Extent → Reader Tok Typed) → ((s : Extent) → Rule tokens (g s) w (f s) SHAPE [] false) → (line : ℕ) → Rule tokens (packed_behind g line) (packed_behind (λ _. w) line) (packed_behind_at f line) OPEN_BRACE [] false
unfolding packed_behind packed_behind_at
packed_behind_rule g w f laws line = rules.seq tokens brace_behind_angle_rule (λ _. rules.seq tokens (members_rule true g w f laws) (λ parts. rules.seq tokens close_angle_rule (λ _. rules.nothing tokens _) refl) refl) refl

packed_rule : (g : Extent → Form Tok Typed) (w : Form Tok Typed) (f : Extent → Reader Tok Typed) → ((s : Extent) → Rule tokens (g s) w (f s) SHAPE [] false) → Rule tokens (packed_of g) (packed_of (λ _. w)) (packed_at f) OPEN_ANGLE [] false
unfolding packed_of packed_at
packed_rule g w f laws = rules.seq tokens (one_rule OPEN_ANGLE line_of (mark kinds.OpenAngle (codes "<")) refl open_angle_real) (λ line. packed_behind_rule g w f laws line) refl

shape_over_rule : (g : ℕ → Form Tok Typed) (p : Bool → Extent → Form Tok Typed) (l w lw : Form Tok Typed) (f : ℕ → Reader Tok Typed) (h : Bool → Extent → Reader Tok Typed) (i : Reader Tok Typed)
    → ((n : ℕ) → Rule tokens (g n) w (f n) SHAPE [] false) → ((packed : Bool) (s : Extent) → Rule tokens (p packed s) w (h packed s) SHAPE [] false) → Rule tokens l lw i LEAF [] false
    → Rule tokens (shape_over g p l) (shape_over (λ _. w) (λ _ _. w) lw) (shape_over_at f h i) SHAPE [] false
unfolding shape_over shape_over_at
shape_over_rule g p l w lw f h i laws parts innermost =
    rules.alt tokens OPEN_BRACKET (array_rule g w f laws) (rules.alt tokens OPEN_BRACE (structure_rule (p false) w (h false) (parts false)) (rules.alt tokens OPEN_ANGLE (packed_rule (p true) w (h true) (parts true)) innermost refl refl) refl refl) refl refl

-- ---- any nesting

elements_sub : (p q : Form Tok Typed) → Sub p q → (line : ℕ) → Sub (elements (λ _. p) line) (elements (λ _. q) line)
unfolding elements
elements_sub p q h line = then_sub (itself _) (λ n. then_sub (itself _) (λ _. then_sub h (λ _. itself _)))

array_sub : (p q : Form Tok Typed) → Sub p q → Sub (array_of (λ _. p)) (array_of (λ _. q))
unfolding array_of
array_sub p q h = then_sub (itself _) (elements_sub p q h)

further_sub : (packed : Bool) (p q : Form Tok Typed) → Sub p q → (s : Extent) → Sub (further packed (λ _. p) s) (further packed (λ _. q) s)
unfolding further
further_sub packed p q h s = then_sub (itself _) (λ _. then_sub h (λ _. itself _))

chained_sub : (packed : Bool) (p q : Form Tok Typed) → Sub p q → (s : Extent) → Sub (Chain anywhere (further packed (λ _. p)) s) (Chain anywhere (further packed (λ _. q)) s)
chained_sub packed p q h s ts [] c = c
chained_sub packed p q h s ts (a ∷ as') (front, back, next, e, g, c) = (front, back, next, e, further_sub packed p q h s front (a, next) g, chained_sub packed p q h next back as' c)

more_members_sub : (packed : Bool) (p q : Form Tok Typed) → Sub p q → (first : Written) → Sub (more_members packed (λ _. p) first) (more_members packed (λ _. q) first)
unfolding more_members
more_members_sub packed p q h first = then_sub (chained_sub packed p q h _) (λ _. itself _)

members_sub : (packed : Bool) (p q : Form Tok Typed) → Sub p q → Sub (members packed (λ _. p)) (members packed (λ _. q))
unfolding members
members_sub packed p q h = either_sub (itself _) (then_sub h (λ first. more_members_sub packed p q h first.shape))

structure_sub : (p q : Form Tok Typed) → Sub p q → Sub (structure_of (λ _. p)) (structure_of (λ _. q))
unfolding structure_of
structure_sub p q h = then_sub (itself _) (λ line. then_sub (members_sub false p q h) (λ _. itself _))

packed_sub : (p q : Form Tok Typed) → Sub p q → Sub (packed_of (λ _. p)) (packed_of (λ _. q))
unfolding packed_of packed_behind
packed_sub p q h = then_sub (itself _) (λ line. then_sub (itself _) (λ _. then_sub (members_sub true p q h) (λ _. itself _)))

over_sub : (p q : Form Tok Typed) → Sub p q → Sub (shape_over (λ _. p) (λ _ _. p) (leaf whole)) (shape_over (λ _. q) (λ _ _. q) (leaf whole))
unfolding shape_over
over_sub p q h = either_sub (array_sub p q h) (either_sub (structure_sub p q h) (either_sub (packed_sub p q h) (itself _)))

one_level_more : (depth : ℕ) → Sub (levels depth) (levels (suc depth))
unfolding shape_over either
one_level_more zero ts x s = inr (inr (inr s))
one_level_more (suc depth) ts x s = over_sub (levels depth) (levels (suc depth)) (one_level_more depth) ts x s

none_more : (n : ℕ) → n ≡ 0 + n
none_more n = omega arith

one_more : (m n : ℕ) → suc (m + n) ≡ suc m + n
one_more m n = omega arith

more_levels : (more depth : ℕ) → Sub (levels depth) (levels (more + depth))
more_levels zero depth ts x s = subst (λ (n : ℕ). levels n ts x) (none_more depth) s
more_levels (suc more) depth ts x s = subst (λ (n : ℕ). levels n ts x) (one_more more depth) (one_level_more (more + depth) ts x (more_levels more depth ts x s))

-- levels for both
either_way : (one other : ℕ) → Sub (levels one) (levels (other + one)) × Sub (levels other) (levels (other + one))
either_way one other = (more_levels other one, λ ts x s. subst (λ (n : ℕ). levels n ts x) (commuted one other) (more_levels one other ts x s))
  where
    commuted : (n m : ℕ) → n + m ≡ m + n
    commuted n m = omega arith

-- ---- parts of any nesting make a shape of some nesting

elements_some : (line : ℕ) (ts : List Tok) (x : Typed) → elements (λ _. any_shape) line ts x → (depth : ℕ) × elements (λ _. levels depth) line ts x
unfolding elements form.◌>>=◌
elements_some line ts x (f, b, n, e, s, (f', b', u, e', s', (f'', b'', y, e'', (depth, d), r))) = (depth, (f, b, n, e, s, (f', b', u, e', s', (f'', b'', y, e'', d, r))))

array_some : (ts : List Tok) (x : Typed) → array_of (λ _. any_shape) ts x → (depth : ℕ) × array_of (λ _. levels depth) ts x
unfolding array_of form.◌>>=◌
array_some ts x (f, b, line, e, s, r) = let o = elements_some line b x r in (o.0, (f, b, line, e, s, o.1))

further_some : (packed : Bool) (s : Extent) (ts : List Tok) (a : Written × Extent) → further packed (λ _. any_shape) s ts a → (depth : ℕ) × further packed (λ _. levels depth) s ts a
unfolding further form.◌>>=◌
further_some packed s ts a (f, b, u, e, c, (f', b', y, e', (depth, d), r)) = (depth, (f, b, u, e, c, (f', b', y, e', d, r)))

chained_some : (packed : Bool) (s : Extent) (ts : List Tok) (as' : List Written) → Chain anywhere (further packed (λ _. any_shape)) s ts as' → (depth : ℕ) × Chain anywhere (further packed (λ _. levels depth)) s ts as'
chained_some packed s ts [] c = (0, c)
chained_some packed s ts (a ∷ as') (front, back, next, e, g, c) =
    let o = further_some packed s front (a, next) g in
    let m = chained_some packed next back as' c in
    let w = either_way o.0 m.0 in
    (m.0 + o.0, (front, back, next, e, further_sub packed (levels o.0) (levels (m.0 + o.0)) w.0 s front (a, next) o.1, chained_sub packed (levels m.0) (levels (m.0 + o.0)) w.1 next back as' m.1))

more_members_some : (packed : Bool) (first : Written) (ts : List Tok) (parts : List Written) → more_members packed (λ _. any_shape) first ts parts → (depth : ℕ) × more_members packed (λ _. levels depth) first ts parts
unfolding more_members form.◌>>=◌
more_members_some packed first ts parts (f, b, m, e, c, r) = let o = chained_some packed _ f m c in (o.0, (f, b, m, e, o.1, r))

members_some : (packed : Bool) (ts : List Tok) (parts : List Written) → members packed (λ _. any_shape) ts parts → (depth : ℕ) × members packed (λ _. levels depth) ts parts
unfolding members form.◌>>=◌ either
members_some packed ts parts (inl s) = (0, inl s)
members_some packed ts parts (inr (f, b, y, e, (depth, d), r)) =
    let m = more_members_some packed y.shape b parts r in
    let w = either_way depth m.0 in
    (m.0 + depth, inr (f, b, y, e, w.0 f y d, more_members_sub packed (levels m.0) (levels (m.0 + depth)) w.1 y.shape b parts m.1))

structure_some : (ts : List Tok) (x : Typed) → structure_of (λ _. any_shape) ts x → (depth : ℕ) × structure_of (λ _. levels depth) ts x
unfolding structure_of form.◌>>=◌
structure_some ts x (f, b, line, e, s, (f', b', parts, e', m, r)) = let o = members_some false f' parts m in (o.0, (f, b, line, e, s, (f', b', parts, e', o.1, r)))

packed_some : (ts : List Tok) (x : Typed) → packed_of (λ _. any_shape) ts x → (depth : ℕ) × packed_of (λ _. levels depth) ts x
unfolding packed_of packed_behind form.◌>>=◌
packed_some ts x (f, b, line, e, s, (f', b', u, e', c, (f'', b'', parts, e'', m, r))) = let o = members_some true f'' parts m in (o.0, (f, b, line, e, s, (f', b', u, e', c, (f'', b'', parts, e'', o.1, r))))

pub nested : Sub (shape_over (λ _. any_shape) (λ _ _. any_shape) (leaf whole)) any_shape
unfolding shape_over either
nested ts x (inl s) = let o = array_some ts x s in (suc o.0, inl o.1)
nested ts x (inr (inl s)) = let o = structure_some ts x s in (suc o.0, inr (inl o.1))
nested ts x (inr (inr (inl s))) = let o = packed_some ts x s in (suc o.0, inr (inr (inl o.1)))
nested ts x (inr (inr (inr s))) = (0, s)

-- ---- shapes

at_no_level : Sub (leaf whole) any_shape
at_no_level ts x s = (0, s)

sub_opens : (bs : List ℕ) (p q : Form Tok Typed) → Sub p q → Opens tokens bs p → Opens tokens bs q
sub_opens bs p q h opens t e = let o = opens t e in (o.0, o.1, h (t ∷ o.0) o.1 o.2, o.3)

leaf_here : ℕ → Rule tokens (leaf whole) (leaf whole) (leaf_at whole) SHAPE [] false
leaf_here n = rules.broader tokens SHAPE [] (leaf_rule whole) refl refl

-- each bracket begins a shape
array_opens : Opens tokens OPEN_BRACKET (array_of (λ _. any_shape))
unfolding array_of
array_opens =
    sub_opens OPEN_BRACKET (array_of (λ _. leaf whole)) (array_of (λ _. any_shape)) (array_sub (leaf whole) any_shape at_no_level)
    (rules.opens_seq tokens OPEN_BRACKET (one_of OPEN_BRACKET line_of) (one_opens OPEN_BRACKET line_of) (λ line. elements_rule (λ _. leaf whole) (leaf whole) (λ _. leaf_at whole) leaf_here line))

structure_opens : Opens tokens OPEN_BRACE (structure_of (λ _. any_shape))
unfolding structure_of
structure_opens =
    sub_opens OPEN_BRACE (structure_of (λ _. leaf whole)) (structure_of (λ _. any_shape)) (structure_sub (leaf whole) any_shape at_no_level)
    (rules.opens_seq tokens OPEN_BRACE (one_of OPEN_BRACE line_of) (one_opens OPEN_BRACE line_of) (λ line. rules.seq tokens (members_rule false (λ _. leaf whole) (leaf whole) (λ _. leaf_at whole) (λ _. leaf_here 0)) (λ parts. rules.nothing tokens _) refl))

packed_opens : Opens tokens OPEN_ANGLE (packed_of (λ _. any_shape))
unfolding packed_of
packed_opens =
    sub_opens OPEN_ANGLE (packed_of (λ _. leaf whole)) (packed_of (λ _. any_shape)) (packed_sub (leaf whole) any_shape at_no_level)
    (rules.opens_seq tokens OPEN_ANGLE (one_of OPEN_ANGLE line_of) (one_opens OPEN_ANGLE line_of) (λ line. packed_behind_rule (λ _. leaf whole) (leaf whole) (λ _. leaf_at whole) (λ _. leaf_here 0) line))

abbrev bracketed : Form Tok Typed
bracketed = either (array_of (λ _. any_shape)) (either (structure_of (λ _. any_shape)) (packed_of (λ _. any_shape)))

bracketed_is : Sub bracketed any_shape
unfolding shape_over either
bracketed_is ts x (inl s) = nested ts x (inl s)
bracketed_is ts x (inr (inl s)) = nested ts x (inr (inl s))
bracketed_is ts x (inr (inr s)) = nested ts x (inr (inr (inl s)))

brackets_open : Opens tokens BRACKETS any_shape
brackets_open t h =
    let o = rules.opens_either tokens OPEN_BRACKET (number kinds.OpenBrace ∷ number kinds.OpenAngle ∷ []) (array_of (λ _. any_shape)) (either (structure_of (λ _. any_shape)) (packed_of (λ _. any_shape))) array_opens (rules.opens_either tokens OPEN_BRACE OPEN_ANGLE (structure_of (λ _. any_shape)) (packed_of (λ _. any_shape)) structure_opens packed_opens) t h in
    (o.0, o.1, bracketed_is (t ∷ o.0) o.1 o.2, o.3)

-- what begins with one of these tokens does
one_begins : {A B : Type 0} (classes : List ℕ) (value : Tok → A) (k : A → Form Tok B) (ts : List Tok) (b : B) → form.◌>>=◌ (one_of classes value) k ts b → subset classes BRACKETS ≡ true → Begun (among tokens BRACKETS) ts
unfolding form.◌>>=◌ is_among
one_begins classes value k ts b ([], back, a, e, s, r) h = absurd s
one_begins classes value k ts b (t ∷ [], back, a, e, s, r) h = subst (Begun (among tokens BRACKETS)) (sym e) (within_of classes BRACKETS h (number t.kind) (passes (among tokens classes t) s))
  where
    passes : (c : Bool) → cond c (Ok (value t)) (Err (refusal (number t.kind))) ≡ Ok a → c ≡ true
    passes true d = refl
    passes false d = absurd cc
one_begins classes value k ts b (t ∷ u ∷ front, back, a, e, s, r) h = absurd s

over_begins : (p : Form Tok Typed) (ts : List Tok) (x : Typed) → shape_over (λ _. p) (λ _ _. p) (leaf whole) ts x → leaf whole ts x ⊎ Begun (among tokens BRACKETS) ts
unfolding shape_over either array_of structure_of packed_of
over_begins p ts x (inl s) = inr (one_begins OPEN_BRACKET line_of (λ line. elements (λ _. p) line) ts x s refl)
over_begins p ts x (inr (inl s)) = inr (one_begins OPEN_BRACE line_of _ ts x s refl)
over_begins p ts x (inr (inr (inl s))) = inr (one_begins OPEN_ANGLE line_of (λ line. packed_behind (λ _. p) line) ts x s refl)
over_begins p ts x (inr (inr (inr s))) = inl s

leaf_or_bracket : (ts : List Tok) (x : Typed) → any_shape ts x → leaf whole ts x ⊎ Begun (among tokens BRACKETS) ts
leaf_or_bracket ts x (zero, s) = inl s
leaf_or_bracket ts x (suc depth, s) = over_begins (levels depth) ts x s

innermost_rule : (room : Room) → Rule tokens (leaf room) any_shape (innermost_at room) SHAPE [] false
unfolding innermost_at
innermost_rule room = record {
  law = widened tokens (among tokens SHAPE) (among tokens [])
      (barred_here tokens (leaf room) (leaf whole) any_shape (leaf_at room) (among tokens BRACKETS) (among tokens LEAF) (among tokens []) (leaf_rule room).law at_no_level leaf_or_bracket (λ t u n m. inl (ap (contains BRACKETS) (sym m))) without brackets_open)
      (λ t e. begins_shape t e) (λ t e. e);
}
  where
    is_false : (b : Bool) → (b ≡ true → ⊥) → b ≡ false
    is_false true never = absurd (never refl)
    is_false false never = refl

    without : (t : Tok) (ts : List Tok) (x : Typed) → leaf whole (t ∷ ts) x → among tokens BRACKETS t ≡ false
    without t ts x s = is_false (among tokens BRACKETS t) (λ p. apart_from BRACKETS LEAF refl (number t.kind) p ((leaf_rule room).law.broad.starts t ts x s))

    or_parts : (a b : Bool) → a || b ≡ true → (a ≡ true) ⊎ (b ≡ true)
    or_parts true b h = inl refl
    or_parts false b h = inr h

    begins_shape : (t : Tok) → among tokens LEAF t || among tokens BRACKETS t ≡ true → among tokens SHAPE t ≡ true
    begins_shape t e = elim (or_parts (among tokens LEAF t) (among tokens BRACKETS t) e) [ inl p ↦ within_of LEAF SHAPE refl (number t.kind) p | inr q ↦ within_of BRACKETS SHAPE refl (number t.kind) q ]

unnested : Sub any_shape (shape_over (λ _. any_shape) (λ _ _. any_shape) (leaf whole))
unfolding shape_over either
unnested ts x (zero, s) = inr (inr (inr s))
unnested ts x (suc depth, s) = over_sub (levels depth) any_shape (λ us y d. (depth, d)) ts x s

pub shape_rule : (depth : ℕ) (room : Room) → Rule tokens (shape depth room) any_shape (shape_at depth room) SHAPE [] false
shape_rule zero room = innermost_rule room
shape_rule (suc depth) room =
    let law = shape_over_rule (λ n. shape depth (shared n room)) (λ packed s. shape depth (left packed room s)) (leaf room) any_shape (leaf whole) (λ n. shape_at depth (shared n room)) (λ packed s. shape_at depth (left packed room s)) (leaf_at room)
    (λ n. shape_rule depth (shared n room)) (λ packed s. shape_rule depth (left packed room s)) (leaf_rule room) in
    record { law = same_form tokens law.law (itself _) (itself _) nested unnested }

pub memory_shape_rule : Rule tokens memory_shape any_shape memory_shape_at SHAPE [] false
unfolding memory_shape memory_shape_at
memory_shape_rule = shape_rule 32 whole

pub member_rule : (packed : Bool) (depth : ℕ) (room : Room) (s : Extent) → Rule tokens (further packed (λ s. shape depth (left packed room s)) s) (further packed (λ _. any_shape) s) (further_at packed (λ s. shape_at depth (left packed room s)) s) COMMA [] false
member_rule packed depth room s = further_rule packed (λ s. shape depth (left packed room s)) any_shape (λ s. shape_at depth (left packed room s)) (λ s. shape_rule depth (left packed room s)) s
