-- What a piece's text says, and that it says one thing.
use Rattle.std.proofs.Common.{◌≡◌, ◌∙◌, ℕ, ◌+◌, ◌<◌, List, [], ◌∷◌, ◌++◌, length, append_assoc, append-nil, length-append, None, Option, Some, arith, refl, subst, sym, ap}
use Rattle.std.proofs.lemmas.Grind.{flat_map-append}
use Rattle.std.proofs.lemmas.List.Elements.{All-head, All-tail}
use Rattle.std.specs.List.{All, flat_map}
use Rattle.std.specs.Prelude.{◌^◌, MatchOption}
use Rattle.ir_tree.specs.Names.{AllBytes}
use Rattle.lto_task.specs.Splits.{Lacks}
use Rattle.lto_task.specs.Units.{IsWritten, UnitTextIsOne, head, name_line, piece_text, unit_text}
use Rattle.lto_task.specs.declared.piece.Piece.{Piece}
use Rattle.lto_task.proofs.Headings.{head_lacks, head_one, names_one, texts_one}
use Rattle.lto_task.proofs.Splitting.{first_split_one}

abbrev pub heading : Piece → List ℕ
heading p = head p.name (length p.refs) (length p.text)

pub piece_is : (p : Piece) (more : List ℕ) → piece_text p ++ more ≡ heading p ++ (10 ∷ (flat_map name_line p.refs ++ (p.text ++ more)))
piece_is p more =
    append_assoc (heading p) (10 ∷ (flat_map name_line p.refs ++ p.text)) more
    ∙ ap (λ (t : List ℕ). heading p ++ (10 ∷ t)) (append_assoc (flat_map name_line p.refs) p.text more)

pub heading_lacks : (p : Piece) → IsWritten p → Lacks 10 (heading p)
heading_lacks p w = head_lacks p.name (length p.refs) (length p.text) w.name w.count w.bytes

-- the first line, and what stands behind it
pub line_one : (p : Piece) (old line new more : List ℕ) → IsWritten p → Lacks 10 line → old ≡ line ++ (10 ∷ new) → old ≡ piece_text p ++ more
    → (line ≡ heading p) × (new ≡ flat_map name_line p.refs ++ (p.text ++ more))
line_one p old line new more w lacks is also =
    first_split_one 10 line new (heading p) (flat_map name_line p.refs ++ (p.text ++ more)) lacks (heading_lacks p w) (sym is ∙ also ∙ piece_is p more)

-- what stands behind a heading is the rest of its piece
pub piece_read : (old line mid new n : List ℕ) (r b : ℕ) → Lacks 10 line → old ≡ line ++ (10 ∷ mid) → AllBytes n × (r < 2 ^ 64) × (b < 2 ^ 64) × (line ≡ head n r b)
    → (o : Option Piece)
    → MatchOption o ((refs : List (List ℕ)) (text more : List ℕ) → All AllBytes refs → length refs ≡ r → length text ≡ b → mid ≡ flat_map name_line refs ++ (text ++ more) → ⊥)
    (λ p. (p.name ≡ n) × All AllBytes p.refs × (length p.refs ≡ r) × (length p.text ≡ b) × (mid ≡ flat_map name_line p.refs ++ (p.text ++ new)))
    → MatchOption o ((p : Piece) (more : List ℕ) → IsWritten p → old ≡ piece_text p ++ more → ⊥) (λ p. IsWritten p × (old ≡ piece_text p ++ new))
piece_read old line mid new n r b lacks is told None h = λ p more w also.
    let parts = line_one p old line mid more w lacks is also in
    let heads = head_one n p.name r (length p.refs) b (length p.text) told.0 w.name told.1 w.count told.2 w.bytes (sym told.3 ∙ parts.0) in
    h p.refs p.text more w.refs (sym heads.1) (sym heads.2) parts.1
piece_read old line mid new n r b lacks is told (Some p) h =
    let heads : head n r b ≡ heading p = λ i. head (sym h.0 i) (sym h.2 i) (sym h.3 i) in (
      record {
        name = subst AllBytes (sym h.0) told.0;
        refs = h.1;
        count = subst (λ (k : ℕ). k < 2 ^ 64) (sym h.2) told.1;
        bytes = subst (λ (k : ℕ). k < 2 ^ 64) (sym h.3) told.2;
      },
      is ∙ ap (λ (l : List ℕ). l ++ (10 ∷ mid)) (told.3 ∙ heads) ∙ ap (λ (l : List ℕ). heading p ++ (10 ∷ l)) h.4 ∙ sym (piece_is p new),
    )

pub piece_one : (p q : Piece) (xs ys : List ℕ) → IsWritten p → IsWritten q → piece_text p ++ xs ≡ piece_text q ++ ys → (p ≡ q) × (xs ≡ ys)
piece_one p q xs ys v w same =
    let lines = line_one q (piece_text p ++ xs) (heading p) (flat_map name_line p.refs ++ (p.text ++ xs)) ys w (heading_lacks p v) (piece_is p xs) same in
    let heads = head_one p.name q.name (length p.refs) (length q.refs) (length p.text) (length q.text) v.name w.name v.count w.count v.bytes w.bytes lines.0 in
    let names = names_one p.refs (p.text ++ xs) q.refs (q.text ++ ys) v.refs w.refs heads.1 lines.1 in
    let texts = texts_one p.text xs q.text ys heads.2 names.1 in
    ((λ i. record { name = heads.0 i; refs = names.0 i; text = texts.0 i }), texts.1)

-- behind fewer pieces stands the next one
pub next_piece : (qs : List Piece) (rest : List ℕ) (ps : List Piece) → All IsWritten qs → All IsWritten ps → (rest ≡ [] → ⊥) → unit_text qs ++ rest ≡ unit_text ps
    → (p : Piece) × (more : List ℕ) × IsWritten p × (rest ≡ piece_text p ++ more)
next_piece [] rest [] all also some same = absurd (some same)
next_piece [] rest (p ∷ ps) all also some same = (p, unit_text ps, All-head IsWritten p ps also, same)
next_piece (q ∷ qs) rest [] all also some same = absurd (cc same)
next_piece (q ∷ qs) rest (p ∷ ps) all also some same =
    let parts = piece_one q p (unit_text qs ++ rest) (unit_text ps) (All-head IsWritten q qs all) (All-head IsWritten p ps also) (sym (append_assoc (piece_text q) (unit_text qs) rest) ∙ same) in
    next_piece qs rest ps (All-tail IsWritten q qs all) (All-tail IsWritten p ps also) some parts.1

pub pieces_one : (ps qs : List Piece) → All IsWritten ps → All IsWritten qs → unit_text ps ≡ unit_text qs → ps ≡ qs
pieces_one [] [] all also same = refl
pieces_one [] (q ∷ qs) all also same = absurd (cc same)
pieces_one (p ∷ ps) [] all also same = absurd (cc same)
pieces_one (p ∷ ps) (q ∷ qs) all also same =
    let parts = piece_one p q (unit_text ps) (unit_text qs) (All-head IsWritten p ps all) (All-head IsWritten q qs also) same in
    let rest = pieces_one ps qs (All-tail IsWritten p ps all) (All-tail IsWritten q qs also) parts.1 in
    λ i. parts.0 i ∷ rest i

pub text_is_one : UnitTextIsOne
text_is_one ps qs u v same = pieces_one ps qs u.each v.each same

pub shorter : (p : Piece) (old new : List ℕ) → old ≡ piece_text p ++ new → length new < length old
shorter p old new is =
    let long : length old ≡ length (piece_text p) + length new = ap (λ (l : List ℕ). length l) is ∙ length-append (piece_text p) new in
    let some : 0 < length (piece_text p) = omega arith in
    omega (arith, long, some)

-- one more piece
pub text_more : (bytes : List ℕ) (ps qs : List Piece) (p : Piece) (rest new : List ℕ) → bytes ≡ unit_text ps ++ rest → rest ≡ piece_text p ++ new → qs ≡ ps ++ p ∷ [] → bytes ≡ unit_text qs ++ new
text_more bytes ps qs p rest new so_far is pushed =
    so_far ∙ ap (λ (l : List ℕ). unit_text ps ++ l) is ∙ sym (append_assoc (unit_text ps) (piece_text p) new)
    ∙ ap (λ (l : List ℕ). (unit_text ps ++ l) ++ new) (sym (append-nil (piece_text p)))
    ∙ ap (λ (l : List ℕ). l ++ new) (sym (flat_map-append piece_text ps (p ∷ []))) ∙ ap (λ (rs : List Piece). unit_text rs ++ new) (sym pushed)
