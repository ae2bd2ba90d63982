-- The heads of arrays and structures, apart from what stands behind them.
use Rattle.std.proofs.Common.{◌≡◌, ℕ, zero, suc, ◌-◌, nat_eq, Bool, true, false, cond, ◌||◌, List, [], ◌∷◌, Result, Ok, Err, refl, sym, ap, subst, ◌∙◌, arith}
use Rattle.ir_lex.specs.declared.token_kind.TokenKind.TheVariants as kinds
use Rattle.ir_lex.specs.TokenKinds.{number}
use Rattle.ir_lex.specs.Tok.{Tok}
use Rattle.ir_parse_parts.specs.Alphabet.{among}
use Rattle.ir_parse_parts.specs.Chained.{chain_at}
use Rattle.ir_parse_parts.specs.declared.fault.Fault.{Fault}
use Rattle.ir_tree.specs.declared.failure.Failure.{Failure}
use Rattle.ir_parse_parts.specs.Readers.{Reader, Fails, done, follow, ◌>>=◌, next_is}
use Rattle.ir_parse_parts.specs.Ahead.{BRACKETS}
use Rattle.ir_parse_parts.specs.Classes.{tokens, the_at, one_of_at}
use Rattle.ir_parse_parts.specs.declared.shape.Typed.{Typed}
use Rattle.ir_parse_parts.specs.Shapes.{Written, structure, parts_of}
use Rattle.ir_parse_operands.specs.declared.extents.Extent.{Extent}
use Rattle.ir_parse_operands.specs.declared.extents.Room.{Room}
use Rattle.ir_parse_operands.specs.declared.shapes.Head.{Head}
use Rattle.ir_parse_operands.specs.declared.shapes.Head.TheVariants.{Array, Structure}
use Rattle.ir_parse_operands.specs.Extents.{extent_of, grown, left, no_bytes, shared}
use Rattle.ir_parse_operands.specs.ShapeForms.{typed, line_of, anywhere, OPEN_BRACKET, OPEN_BRACE, OPEN_ANGLE}
use Rattle.ir_parse_operands.specs.ShapeFormsAt.{CLOSE_BRACE, array_at, array_head_at, begins, brace_behind_angle_at, bracketed_at, closed_array_at, closed_structure_at, count_at, elements_at, further_at, head_at, inner_at, innermost_at, leaf_at, members_at, members_on_at, more_members_at, packed_at, packed_behind_at, packed_head_at, shape_at, shape_over_at, structure_at, structure_end_at}
use Rattle.ir_parse_operands.proofs.Additions.{first_fails}

-- what stands behind a head
abbrev behind_head : (ℕ → Reader Tok Typed) → (Bool → Extent → Reader Tok Typed) → Head → Reader Tok Typed
behind_head of part (Array line n) = of n >>= λ e. closed_array_at n line e.shape
behind_head of part (Structure packed line) = inner_at packed (part packed) >>= λ parts. closed_structure_at packed line parts

module _ (of : ℕ → Reader Tok Typed) where
  array_is : (ts : List Tok) → array_at of ts ≡ follow (array_head_at ts) (λ h. of h.1 >>= λ e. closed_array_at h.1 h.0 e.shape)
  unfolding array_at elements_at array_head_at
  array_is ts = by_line (one_of_at OPEN_BRACKET line_of ts)
    where
      by_times : (line n : ℕ) (r : Result (Unit {0} × List Tok) Fault) → follow r (λ _. of n >>= λ e. closed_array_at n line e.shape) ≡ follow {A = ℕ × ℕ} (follow {B = ℕ × ℕ} r (λ _. done (line, n))) (λ h. of h.1 >>= λ e. closed_array_at h.1 h.0 e.shape)
      by_times line n (Ok x) = refl
      by_times line n (Err e) = refl

      by_count : (line : ℕ) (r : Result (ℕ × List Tok) Fault) → follow r (λ n. the_at kinds.Times >>= λ _. of n >>= λ e. closed_array_at n line e.shape) ≡ follow {A = ℕ × ℕ} (follow {B = ℕ × ℕ} r (λ n. the_at kinds.Times >>= λ _. done {A = ℕ × ℕ} (line, n))) (λ h. of h.1 >>= λ e. closed_array_at h.1 h.0 e.shape)
      by_count line (Ok x) = by_times line x.0 (the_at kinds.Times x.1)
      by_count line (Err e) = refl

      by_line : (r : Result (ℕ × List Tok) Fault) → follow r (λ line. count_at >>= λ n. the_at kinds.Times >>= λ _. of n >>= λ e. closed_array_at n line e.shape) ≡ follow {A = ℕ × ℕ} (follow {B = ℕ × ℕ} r (λ line. count_at >>= λ n. the_at kinds.Times >>= λ _. done {A = ℕ × ℕ} (line, n))) (λ h. of h.1 >>= λ e. closed_array_at h.1 h.0 e.shape)
      by_line (Ok x) = by_count x.0 (count_at x.1)
      by_line (Err e) = refl

module _ (packed : Bool) (part : Extent → Reader Tok Typed) where
  -- members, the brace and what stands behind it
  members_then : {B : Type 0} (k : List Written → Reader Tok B) (ts : List Tok) → follow (members_at packed part ts) k ≡ follow (inner_at packed part ts) (λ parts. the_at kinds.CloseBrace >>= λ _. k parts)
  unfolding members_at more_members_at inner_at
  members_then {B} k ts = by_token ts
    where
      by_close : (parts : List Written) (r : Result (Unit {0} × List Tok) Fault) → follow (follow {B = List Written} r (λ _. done parts)) k ≡ follow r (λ _. k parts)
      by_close parts (Ok x) = refl
      by_close parts (Err e) = refl

      by_chain : (first : Written) (r : Result (List Written × List Tok) Fault) → follow (follow {B = List Written} r (λ more. the_at kinds.CloseBrace >>= λ _. done (first ∷ more))) k ≡ follow (follow {B = List Written} r (λ more. done (first ∷ more))) (λ parts. the_at kinds.CloseBrace >>= λ _. k parts)
      by_chain first (Ok x) = by_close (first ∷ x.0) (the_at kinds.CloseBrace x.1)
      by_chain first (Err e) = refl

      by_first : (r : Result (Typed × List Tok) Fault) → follow (follow {B = List Written} r (λ first. more_members_at packed part first.shape)) k ≡ follow (follow {B = List Written} r (λ p. chain_at anywhere begins (further_at packed part) (grown packed no_bytes (extent_of p.shape)) >>= λ more. done (p.shape ∷ more))) (λ parts. the_at kinds.CloseBrace >>= λ _. k parts)
      by_first (Ok x) = by_chain x.0.shape (chain_at anywhere begins (further_at packed part) (grown packed no_bytes (extent_of x.0.shape)) x.1)
      by_first (Err e) = refl

      by_token : (ts : List Tok) → follow (members_at packed part ts) k ≡ follow (inner_at packed part ts) (λ parts. the_at kinds.CloseBrace >>= λ _. k parts)
      by_token [] = by_first (part no_bytes [])
      by_token (t ∷ ts) = by_test (among tokens CLOSE_BRACE t)
        where
          by_test : (b : Bool) → follow (cond b (follow (the_at kinds.CloseBrace (t ∷ ts)) (λ _. done [])) (follow (part no_bytes (t ∷ ts)) (λ first. more_members_at packed part first.shape))) k ≡ follow (cond b (done {A = List Written} [] (t ∷ ts)) (members_on_at packed part no_bytes (t ∷ ts))) (λ parts. the_at kinds.CloseBrace >>= λ _. k parts)
          by_test true = by_close [] (the_at kinds.CloseBrace (t ∷ ts))
          by_test false = by_first (part no_bytes (t ∷ ts))

module _ (part : Extent → Reader Tok Typed) where
  structure_is : (ts : List Tok) → structure_at part ts ≡ follow (one_of_at OPEN_BRACE line_of ts) (λ line. inner_at false part >>= λ parts. closed_structure_at false line parts)
  unfolding structure_at structure_end_at
  structure_is ts = by_line (one_of_at OPEN_BRACE line_of ts)
    where
      by_close : (x : Typed) (r : Result (Unit {0} × List Tok) Fault) → follow r (λ _. done x) ≡ follow (follow {B = Unit {0}} r (λ _. done tt)) (λ _. done x)
      by_close x (Ok y) = refl
      by_close x (Err e) = refl

      by_parts : (line : ℕ) (r : Result (List Written × List Tok) Fault) → follow r (λ parts. the_at kinds.CloseBrace >>= λ _. done (typed (structure false (parts_of parts)) line)) ≡ follow r (λ parts. closed_structure_at false line parts)
      by_parts line (Ok x) = by_close (typed (structure false (parts_of x.0)) line) (the_at kinds.CloseBrace x.1)
      by_parts line (Err e) = refl

      by_line : (r : Result (ℕ × List Tok) Fault) → follow r (λ line. members_at false part >>= λ parts. done (typed (structure false (parts_of parts)) line)) ≡ follow r (λ line. inner_at false part >>= λ parts. closed_structure_at false line parts)
      by_line (Ok x) = members_then false part (λ parts. done (typed (structure false (parts_of parts)) x.0)) x.1 ∙ by_parts x.0 (inner_at false part x.1)
      by_line (Err e) = refl

  packed_is : (ts : List Tok) → packed_at part ts ≡ follow (packed_head_at ts) (λ line. inner_at true part >>= λ parts. closed_structure_at true line parts)
  unfolding packed_at packed_behind_at packed_head_at structure_end_at
  packed_is ts = by_line (one_of_at OPEN_ANGLE line_of ts)
    where
      again : (line : ℕ) (parts : List Written) (r : Result (Unit {0} × List Tok) Fault) → follow r (λ _. the_at kinds.CloseAngle >>= λ _. done (typed (structure true (parts_of parts)) line)) ≡ follow (follow {B = Unit {0}} r (λ _. the_at kinds.CloseAngle)) (λ _. done (typed (structure true (parts_of parts)) line))
      again line parts (Ok x) = refl
      again line parts (Err e) = refl

      by_parts : (line : ℕ) (r : Result (List Written × List Tok) Fault) → follow r (λ parts. the_at kinds.CloseBrace >>= λ _. the_at kinds.CloseAngle >>= λ _. done (typed (structure true (parts_of parts)) line)) ≡ follow r (λ parts. closed_structure_at true line parts)
      by_parts line (Ok x) = again line x.0 (the_at kinds.CloseBrace x.1)
      by_parts line (Err e) = refl

      by_brace : (line : ℕ) (r : Result (Unit {0} × List Tok) Fault) → follow r (λ _. members_at true part >>= λ parts. the_at kinds.CloseAngle >>= λ _. done (typed (structure true (parts_of parts)) line)) ≡ follow (follow {B = ℕ} r (λ _. done line)) (λ line. inner_at true part >>= λ parts. closed_structure_at true line parts)
      by_brace line (Ok x) = members_then true part (λ parts. the_at kinds.CloseAngle >>= λ _. done (typed (structure true (parts_of parts)) line)) x.1 ∙ by_parts line (inner_at true part x.1)
      by_brace line (Err e) = refl

      by_line : (r : Result (ℕ × List Tok) Fault) → follow r (λ line. brace_behind_angle_at >>= λ _. members_at true part >>= λ parts. the_at kinds.CloseAngle >>= λ _. done (typed (structure true (parts_of parts)) line)) ≡ follow (follow {B = ℕ} r (λ line. brace_behind_angle_at >>= λ _. done line)) (λ line. inner_at true part >>= λ parts. closed_structure_at true line parts)
      by_line (Ok x) = by_brace x.0 (brace_behind_angle_at x.1)
      by_line (Err e) = refl

module _ (of : ℕ → Reader Tok Typed) (part : Bool → Extent → Reader Tok Typed) (innermost : Reader Tok Typed) where
  by_array : (r : Result ((ℕ × ℕ) × List Tok) Fault) → follow r (λ h. of h.1 >>= λ e. closed_array_at h.1 h.0 e.shape) ≡ follow (follow {B = Head} r (λ h. done (Array h.0 h.1))) (behind_head of part)
  by_array (Ok x) = refl
  by_array (Err e) = refl

  by_structure : (packed : Bool) (r : Result (ℕ × List Tok) Fault) → follow r (λ line. inner_at packed (part packed) >>= λ parts. closed_structure_at packed line parts) ≡ follow (follow {B = Head} r (λ line. done (Structure packed line))) (behind_head of part)
  by_structure packed (Ok x) = refl
  by_structure packed (Err e) = refl

  bracketed : (ts : List Tok) → next_is (among tokens BRACKETS) ts ≡ true → shape_over_at of part innermost ts ≡ follow (bracketed_at ts) (behind_head of part)
  unfolding shape_over_at bracketed_at
  bracketed [] h = absurd cc
  bracketed (t ∷ ts) h = by_test (nat_eq (number t.kind) (number kinds.OpenBracket)) (nat_eq (number t.kind) (number kinds.OpenBrace)) (nat_eq (number t.kind) (number kinds.OpenAngle)) h
    where
      by_test : (a b c : Bool) → a || (b || (c || false)) ≡ true → cond (a || false) (array_at of (t ∷ ts)) (cond (b || false) (structure_at (part false) (t ∷ ts)) (cond (c || false) (packed_at (part true) (t ∷ ts)) (innermost (t ∷ ts))))
          ≡ follow (cond (a || false) (follow {B = Head} (array_head_at (t ∷ ts)) (λ h. done (Array h.0 h.1))) (cond (b || false) (follow {B = Head} (one_of_at OPEN_BRACE line_of (t ∷ ts)) (λ line. done (Structure false line))) (follow {B = Head} (packed_head_at (t ∷ ts)) (λ line. done (Structure true line))))) (behind_head of part)
      by_test true b c d = array_is of (t ∷ ts) ∙ by_array (array_head_at (t ∷ ts))
      by_test false true c d = structure_is (part false) (t ∷ ts) ∙ by_structure false (one_of_at OPEN_BRACE line_of (t ∷ ts))
      by_test false false true d = packed_is (part true) (t ∷ ts) ∙ by_structure true (packed_head_at (t ∷ ts))
      by_test false false false d = absurd cc

  unbracketed : (ts : List Tok) → next_is (among tokens BRACKETS) ts ≡ false → shape_over_at of part innermost ts ≡ innermost ts
  unfolding shape_over_at
  unbracketed [] h = refl
  unbracketed (t ∷ ts) h = by_test (nat_eq (number t.kind) (number kinds.OpenBracket)) (nat_eq (number t.kind) (number kinds.OpenBrace)) (nat_eq (number t.kind) (number kinds.OpenAngle)) h
    where
      by_test : (a b c : Bool) → a || (b || (c || false)) ≡ false → cond (a || false) (array_at of (t ∷ ts)) (cond (b || false) (structure_at (part false) (t ∷ ts)) (cond (c || false) (packed_at (part true) (t ∷ ts)) (innermost (t ∷ ts)))) ≡ innermost (t ∷ ts)
      by_test true b c d = absurd cc
      by_test false true c d = absurd cc
      by_test false false true d = absurd cc
      by_test false false false d = refl

-- a shape whose first token is no bracket
pub leaf_is : (depth : ℕ) (room : Room) (ts : List Tok) → false ≡ next_is (among tokens BRACKETS) ts → shape_at depth room ts ≡ leaf_at room ts
unfolding innermost_at
leaf_is zero room [] h = refl
leaf_is zero room (t ∷ ts) h = rw (sym h) refl
leaf_is (suc depth) room ts h = unbracketed (λ n. shape_at depth (shared n room)) (λ packed s. shape_at depth (left packed room s)) (leaf_at room) ts (sym h)

-- an array or a structure
headed_is : (depth : ℕ) (room : Room) (ts : List Tok) → next_is (among tokens BRACKETS) ts ≡ true → shape_at depth room ts ≡ follow (head_at depth ts) (behind_head (λ n. shape_at (depth - 1) (shared n room)) (λ packed s. shape_at (depth - 1) (left packed room s)))
unfolding innermost_at
headed_is zero room [] h = absurd cc
headed_is zero room (t ∷ ts) h = rw h refl
headed_is (suc depth) room ts h = subst (λ (d : ℕ). shape_at (suc depth) room ts ≡ follow (bracketed_at ts) (behind_head (λ n. shape_at d (shared n room)) (λ packed s. shape_at d (left packed room s)))) (one_less depth) (bracketed (λ n. shape_at depth (shared n room)) (λ packed s. shape_at depth (left packed room s)) (leaf_at room) ts h)
  where
    one_less : (n : ℕ) → n ≡ suc n - 1
    one_less n = omega arith

module _ (depth : ℕ) (room : Room) (ts : List Tok) (h : true ≡ next_is (among tokens BRACKETS) ts) where
  abbrev behind_here : Head → Reader Tok Typed
  behind_here = behind_head (λ n. shape_at (depth - 1) (shared n room)) (λ packed s. shape_at (depth - 1) (left packed room s))

  pub head_fails : (e : Failure Fault) → Fails e (head_at depth ts) → Fails e (shape_at depth room ts)
  head_fails e d = subst (Fails e) (sym (headed_is depth room ts (sym h))) (first_fails e (head_at depth ts) behind_here d)

  module _ (head : Head) (mid : List Tok) (d : head_at depth ts ≡ Ok (head, mid)) where
    read : shape_at depth room ts ≡ behind_here head mid
    read = headed_is depth room ts (sym h) ∙ ap (λ (r : Result (Head × List Tok) Fault). follow r behind_here) d

    module _ (line n : ℕ) (i : head ≡ Array line n) where
      array_read : shape_at depth room ts ≡ follow (shape_at (depth - 1) (shared n room) mid) (λ e. closed_array_at n line e.shape)
      array_read = read ∙ ap (λ (x : Head). behind_here x mid) i

      pub array_fails : (e : Failure Fault) → Fails e (shape_at (depth - 1) (shared n room) mid) → Fails e (shape_at depth room ts)
      array_fails e f = subst (Fails e) (sym array_read) (first_fails e _ (λ e. closed_array_at n line e.shape) f)

      pub array_gives : (x : Typed) (after : List Tok) → shape_at (depth - 1) (shared n room) mid ≡ Ok (x, after) → shape_at depth room ts ≡ closed_array_at n line x.shape after
      array_gives x after f = array_read ∙ ap (λ (r : Result (Typed × List Tok) Fault). follow r (λ e. closed_array_at n line e.shape)) f

    module _ (packed : Bool) (line : ℕ) (i : head ≡ Structure packed line) where
      structure_read : shape_at depth room ts ≡ follow (inner_at packed (λ s. shape_at (depth - 1) (left packed room s)) mid) (λ parts. closed_structure_at packed line parts)
      structure_read = read ∙ ap (λ (x : Head). behind_here x mid) i

      pub structure_fails : (e : Failure Fault) → Fails e (inner_at packed (λ s. shape_at (depth - 1) (left packed room s)) mid) → Fails e (shape_at depth room ts)
      structure_fails e f = subst (Fails e) (sym structure_read) (first_fails e _ (λ parts. closed_structure_at packed line parts) f)

      pub structure_gives : (parts : List Written) (after : List Tok) → inner_at packed (λ s. shape_at (depth - 1) (left packed room s)) mid ≡ Ok (parts, after) → shape_at depth room ts ≡ closed_structure_at packed line parts after
      structure_gives parts after f = structure_read ∙ ap (λ (r : Result (List Written × List Tok) Fault). follow r (λ parts. closed_structure_at packed line parts)) f
