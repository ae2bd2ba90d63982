-- A function that is walked over: what is ahead, and what a walk from there on is.
use Rattle.std.proofs.Common.{◌≡◌, ◌∙◌, ◌<◌, ◌≤◌, ◌+◌, ◌-◌, ◌==◌, ℕ, zero, suc, ◌⊎◌, inl, inr, Bool, true, false, List, [], ◌∷◌, ◌++◌, MatchOption, Option, Some, None, map, length, length-append, take, append_assoc, append-nil, ap, sym, refl, subst, arith, if◌then◌else◌}
use Rattle.std.specs.Prelude.{slice_get}
use Rattle.std.proofs.lemmas.Bool.{cases_lt}
use Rattle.ir_tree.specs.Types.{argument_types}
use Rattle.ir_tree.specs.declared.block.Block.{Block}
use Rattle.ir_tree.specs.declared.block.Terminator.{Terminator}
use Rattle.ir_tree.specs.declared.function.Function.{Function}
use Rattle.ir_tree.specs.declared.instr.Instr.{Instr}
use Rattle.ir_tree.specs.declared.instr.Instr.TheVariants.{Address, Alloca, Binary, Call, Cast, Freeze, Icmp, Load, Phi as StrayPhi, Select, Store}
use Rattle.ir_tree.specs.declared.instr.Line.{Line}
use Rattle.ir_tree.specs.declared.operand.Argument.{Argument}
use Rattle.ir_tree.specs.declared.operand.Operand.{Operand}
use Rattle.ir_tree.specs.declared.operand.Operand.TheVariants.{Local, Null, Number, Poison, Symbol as Named}
use Rattle.ir_tree.specs.declared.operand.Reg.{Reg}
use Rattle.ir_tree.specs.declared.operand.Symbol.{Symbol}
use Rattle.ir_meaning.specs.Program.{counted}
use Rattle.ir_tree.specs.Edited.{argument_edited, block_edited, instr_edited, line_edited, phi_edited}
use Rattle.ir_edit.specs.Substituted.{or_local}
use Rattle.inline_site.specs.Callers.{Inlines, IsReady, counted_done, ended, made_of, named_by, next_in, opened_with, phi_by, started, with_names, without}
use Rattle.inline_site.specs.Sites.{IsCallOf, Site, StandsAt, counted_in}
use Rattle.inline_site.specs.declared.caller.Caller.{Caller}
use Rattle.inline_site.specs.declared.open.Open.{Open}
use Rattle.inline_site.proofs.Later.{call_late, laid, late_counts, many_mapped, site, site_stands, types_kept, without_stays}
use Rattle.inline_site.proofs.Standing.{Found, found_in, one_line, within}
use Rattle.back_end.specs.Inlinable.{count}
use Rattle.back_end.specs.Walk.{IsFirst, IsWalk, Takes, TakesAt, Walks}
use Rattle.back_end.specs.Walking.{IsAhead, IsBegun, IsHere, TakesNone, TakesNow}
use Rattle.back_end.specs.declared.walker.Walker.{Walker}
use Rattle.back_end.proofs.Finding.{counted_both, place_within}
use Rattle.back_end.proofs.Walks.{none_more, one_more}

-- ---- instructions with poison for results that no return gives

-- what is a symbol with it was one before
no_local : (rs : List (ℕ × Reg)) (x : ℕ) (s : Symbol) (k : ℕ) → without rs (Local x) ≡ Named s k → ⊥
no_local [] x s k e = cc e
no_local (r ∷ rs) x s k e = by (r.0 == x) e (no_local rs x s k)
  where
    by : (b : Bool) → without rs (or_local (if b then Some (Poison r.1) else None) x) ≡ Named s k → (without rs (Local x) ≡ Named s k → ⊥) → ⊥
    by true e rest = let clash : Poison r.1 ≡ Named s k = sym (without_stays rs (Poison r.1) (λ v. refl)) ∙ e in cc clash
    by false e rest = rest e

named_before : (rs : List (ℕ × Reg)) (o : Operand) (s : Symbol) (k : ℕ) → without rs o ≡ Named s k → o ≡ Named s k
named_before rs (Local x) s k e = absurd (no_local rs x s k e)
named_before rs (Number width bits) s k e = sym (without_stays rs (Number width bits) (λ v. refl)) ∙ e
named_before rs Null s k e = sym (without_stays rs Null (λ v. refl)) ∙ e
named_before rs (Poison reg) s k e = sym (without_stays rs (Poison reg) (λ v. refl)) ∙ e
named_before rs (Named symbol offset) s k e = sym (without_stays rs (Named symbol offset) (λ v. refl)) ∙ e

call_before : (rs : List (ℕ × Reg)) (callee : Function) (instr : Instr) (as' : List Argument) → IsCallOf callee (instr_edited (λ n. n) (without rs) instr) as' → (bs : List Argument) × IsCallOf callee instr bs
call_before rs callee (Call result target arguments) as' is =
    let result' : result ≡ callee.result = cc is.direct in
    let target' : without rs target ≡ Named callee.symbol 0 = cc is.direct in
    let arguments' : map (argument_edited (without rs)) arguments ≡ as' = cc is.direct in (
      arguments,
      record {
        direct = λ i. Call (result' i) (named_before rs target callee.symbol 0 target' i) arguments;
        typed = sym (types_kept (without rs) arguments) ∙ ap argument_types arguments' ∙ is.typed;
      },
    )
call_before rs callee (Binary op flags width left right) as' is = absurd (cc is.direct)
call_before rs callee (Icmp predicate reg left right) as' is = absurd (cc is.direct)
call_before rs callee (Cast op from value to) as' is = absurd (cc is.direct)
call_before rs callee (Select condition if_true if_false) as' is = absurd (cc is.direct)
call_before rs callee (Freeze reg value) as' is = absurd (cc is.direct)
call_before rs callee (Alloca shape align) as' is = absurd (cc is.direct)
call_before rs callee (Load reg address align) as' is = absurd (cc is.direct)
call_before rs callee (Store reg value address align) as' is = absurd (cc is.direct)
call_before rs callee (Address inbounds shape base indices) as' is = absurd (cc is.direct)
call_before rs callee (StrayPhi reg incoming) as' is = absurd (cc is.direct)

takes_before : (bodies : List ℕ → Option Function) (symbol : Symbol) (room : ℕ) (rs : List (ℕ × Reg)) (instr : Instr) (c : Function) → Takes bodies symbol room (instr_edited (λ n. n) (without rs) instr) c → Takes bodies symbol room instr c
takes_before bodies symbol room rs instr c t =
    let before = call_before rs c instr t.arguments t.call in
    record { body = t.body; some = t.some; other = t.other; arguments = before.0; call = before.1; small = t.small }

takes_late : (bodies : List ℕ → Option Function) (symbol : Symbol) (room : ℕ) (rs : List (ℕ × Reg)) (instr : Instr) (c : Function) → Takes bodies symbol room instr c → Takes bodies symbol room (instr_edited (λ n. n) (without rs) instr) c
takes_late bodies symbol room rs instr c t = record {
  body = t.body;
  some = t.some;
  other = t.other;
  arguments = map (argument_edited (without rs)) t.arguments;
  call = call_late rs c instr t.arguments t.call;
  small = t.small;
}

-- ---- the room that is left

pub matched : {X : Type 0} (o : Option X) (P P' : Type 0) (Q Q' : X → Type 0) → (P → P') → ((x : X) → Q x → Q' x) → MatchOption o P Q → MatchOption o P' Q'
matched None P P' Q Q' p q h = p h
matched (Some x) P P' Q Q' p q h = q x h

pub none_now : (bodies : List ℕ → Option Function) (symbol : Symbol) (many room : ℕ) (instr : Instr) → many + room ≡ 20000 → ((c : Function) → Takes bodies symbol room instr c → ⊥) → TakesNone bodies symbol many instr
none_now bodies symbol many room instr is none c t =
    let same : t.room ≡ room = (let other : many + t.room ≡ 20000 = t.has_room in omega (arith, is, other)) in
    none c (subst (λ (r : ℕ). Takes bodies symbol r instr c) same t.takes)

-- ---- places that take nothing

pick : (q to : ℕ) (P : Type 0) → (q < to → P) → (to ≤ q → P) → P
pick q to P before behind = by (cases_lt q to)
  where
    by : (q < to) ⊎ (to ≤ q) → P
    by (inl lt) = before lt
    by (inr le) = behind le

-- a walk may begin behind them
skip : (k : ℕ) (bodies : List ℕ → Option Function) (from to : ℕ) (f g : Function) → from ≤ to → ((q : ℕ) (c : Function) → from ≤ q → q < to → TakesAt bodies f q c → ⊥) → Walks k bodies to f g → Walks k bodies from f g
unfolding Walks
skip zero bodies from to f g le none (last, e) = ((λ q c behind t. pick q to ⊥ (λ lt. none q c behind lt t) (λ past. last q c past t)), e)
skip (suc k) bodies from to f g le none (place, c, first, h, inlined, rest) = (
  place,
  c,
  record {
    behind = omega (arith, le, first.behind);
    takes = first.takes;
    first = λ q d behind lt t. pick q to ⊥ (λ less. none q d behind less t) (λ past. first.first q d past lt t);
  },
  h,
  inlined,
  rest,
)

moved_on : (bodies : List ℕ → Option Function) (f h : Function) (w : Walker) (from to : ℕ) → from ≤ to → ((q : ℕ) (c : Function) → from ≤ q → q < to → TakesAt bodies h q c → ⊥) → IsHere bodies f w h from → IsHere bodies f w h to
moved_on bodies f h w from to le none here = record {
  ready = here.ready;
  counts = here.counts;
  walks = λ k g walks. here.walks k g (skip k bodies from to h g le none walks);
}

-- ---- the block that is open

at_end : {X : Type 0} (xs ys : List X) (x : X) → slice_get (xs ++ x ∷ ys) (length xs) ≡ Some x
at_end [] ys x = refl
at_end (y ∷ xs) ys x = at_end xs ys x

taken_front : (front back : List Block) (block : Block) → take (length front) (front ++ block ∷ back) ≡ front
taken_front [] back block = refl
taken_front (x ∷ front) back block = ap (λ (l : List Block). x ∷ l) (taken_front front back block)

-- an instruction of a block between others
in_there : (bs front back : List Block) (b : Block) (q : ℕ) (s : Site) → bs ≡ front ++ b ∷ back → StandsAt bs q s → counted_in front < q → q ≤ counted_in front + counted b
    → (q ≡ counted_in front + (length b.phis + (length s.before + 1))) × (length s.before + 1 ≤ length b.lines)
in_there bs front back b q s is stands more less =
    let counts : q ≡ counted_in s.front + (length s.block.phis + (length s.before + 1)) = stands.counts in
    let taken : counted_in (take (length front) bs) ≡ counted_in front = ap (λ (l : List Block). counted_in (take (length front) l)) is ∙ ap counted_in (taken_front front back b) in
    let found : Found b (q - counted_in front) s.block s.before =
    found_in bs (length front) (q - counted_in front) b (ap (λ (l : List Block). slice_get l (length front)) is ∙ at_end front back b) (omega (arith, more)) (omega (arith, less, more)) s.front s.back s.block s.before s.after s.call stands.blocks stands.lines
    (omega (arith, counts, more, taken)) in
    let phis : length s.block.phis ≡ length b.phis = ap (λ (x : Block). length x.phis) found.0 in
    let lines : length s.block.lines ≡ length b.lines = ap (λ (x : Block). length x.lines) found.0 in
    let line : length s.before + 1 ≤ length s.block.lines = within s.block s.before s.after s.call stands.lines in
    (omega (arith, found.1, phis, more), omega (arith, lines, line))

module _ (f : Function) (c : Caller) (o : Open) (lines : List Line) (end : Terminator) (ahead : List Block) where
  abbrev now : Function
  now = made_of f c (opened_with o lines end ∷ ahead)

  in_open : (q : ℕ) (s : Site) → StandsAt now.blocks q s → counted_done c < q → q ≤ counted_done c + (length o.phis + (length o.lines + length lines) + 1)
      → (q ≡ counted_done c + (length o.phis + (length s.before + 1))) × (length s.before + 1 ≤ length o.lines + length lines)
  in_open q s stands more less =
      let edit : Block → Block = block_edited (λ n. n) (without c.late.lost.items) in
      let name : Block → Block = with_names (named_by c.late.halves.items) in
      let done : counted_in (map (block_edited (λ n. n) (without c.late.lost.items)) (map (with_names (named_by c.late.halves.items)) c.done.items)) ≡ counted_done c = late_counts (named_by c.late.halves.items) (without c.late.lost.items) c.done.items in
      let phis : length (map (phi_edited (λ n. n) (without c.late.lost.items)) (map (phi_by (named_by c.late.halves.items)) o.phis)) ≡ length o.phis =
      many_mapped (phi_edited (λ n. n) (without c.late.lost.items)) (map (phi_by (named_by c.late.halves.items)) o.phis) ∙ many_mapped (phi_by (named_by c.late.halves.items)) o.phis in
      let all : length (map (line_edited (λ n. n) (without c.late.lost.items)) (o.lines ++ lines)) ≡ length o.lines + length lines = many_mapped (line_edited (λ n. n) (without c.late.lost.items)) (o.lines ++ lines) ∙ length-append o.lines lines in
      let there = in_there now.blocks (map (block_edited (λ n. n) (without c.late.lost.items)) (map (with_names (named_by c.late.halves.items)) c.done.items)) (map (block_edited (λ n. n) (without c.late.lost.items)) (map (with_names (named_by c.late.halves.items)) ahead))
      (block_edited (λ n. n) (without c.late.lost.items) (with_names (named_by c.late.halves.items) (opened_with o lines end))) q s
      (laid (block_edited (λ n. n) (without c.late.lost.items)) (with_names (named_by c.late.halves.items)) c.done.items (opened_with o lines end) ahead) stands (omega (arith, done, more)) (omega (arith, done, phis, all, less)) in
      (omega (arith, there.0, done, phis), omega (arith, there.1, all))

  count_open : count now ≡ counted_done c + (length o.phis + (length o.lines + length lines) + 1) + counted_in ahead
  count_open =
      let late : count now ≡ counted_in (c.done.items ++ opened_with o lines end ∷ ahead) = late_counts (named_by c.late.halves.items) (without c.late.lost.items) (c.done.items ++ opened_with o lines end ∷ ahead) in
      let both : counted_in (c.done.items ++ opened_with o lines end ∷ ahead) ≡ counted_in c.done.items + (counted (opened_with o lines end) + counted_in ahead) = counted_both c.done.items ahead (opened_with o lines end) in
      let all : length (o.lines ++ lines) ≡ length o.lines + length lines = length-append o.lines lines in
      omega (arith, late, both, all)

-- ---- the walk

pub first_ahead : (bodies : List ℕ → Option Function) (f : Function) (w : Walker) → made_of f w.caller f.blocks ≡ f → IsReady f w.caller → counted_done w.caller ≡ 0 → w.count ≡ counted_in f.blocks → IsAhead bodies f w f.blocks
first_ahead bodies f w same ready none counts =
    subst (λ (h : Function). IsHere bodies f w h (counted_done w.caller + 1)) (sym same)
    (record {
      ready = ready;
      counts = counts;
      walks = λ k g walks. (k, subst (λ (n : ℕ). Walks k bodies n f g) (ap (λ (n : ℕ). n + 1) none) walks);
    })

-- a block is begun
pub begun : (bodies : List ℕ → Option Function) (f : Function) (w : Walker) (o : Open) (b : Block) (ahead : List Block) → o ≡ started b → IsAhead bodies f w (b ∷ ahead) → IsBegun bodies f w o b.lines b.end ahead
begun bodies f w o b ahead is here =
    subst (λ (p : Open). IsBegun bodies f w p b.lines b.end ahead) (sym is)
    (moved_on bodies f (made_of f w.caller (b ∷ ahead)) w (counted_done w.caller + 1) (next_in w.caller (started b)) (omega arith)
    (λ q c le lt t. let at = in_open f w.caller (started b) b.lines b.end ahead q t.site t.stands (omega (arith, le)) (omega (arith, lt)) in omega (arith, at.0, lt)) here)

-- an instruction stays
pub stayed : (bodies : List ℕ → Option Function) (f : Function) (symbol : Symbol) (w : Walker) (o o' : Open) (l : Line) (lines : List Line) (end : Terminator) (ahead : List Block) → f.symbol ≡ symbol → TakesNone bodies symbol w.count l.instr
    → o' ≡ record o { lines = o.lines ++ l ∷ [] } → IsBegun bodies f w o (l ∷ lines) end ahead → IsBegun bodies f w o' lines end ahead
stayed bodies f symbol w o o' l lines end ahead same none is here =
    subst (λ (p : Open). IsBegun bodies f w p lines end ahead) (sym is)
    (subst (λ (ls : List Line). IsHere bodies f w (made_of f w.caller (record { number = o.number; phis = o.phis; lines = ls; end = end } ∷ ahead)) (next_in w.caller (record o { lines = o.lines ++ l ∷ [] })))
    (sym (append_assoc o.lines (l ∷ []) lines))
    (moved_on bodies f h w (next_in w.caller o) (next_in w.caller (record o { lines = o.lines ++ l ∷ [] })) (omega (arith, one)) (λ q c le lt t. not q c (omega (arith, le, lt, one)) t) here))
  where
    h : Function
    h = made_of f w.caller (opened_with o (l ∷ lines) end ∷ ahead)

    one : length (o.lines ++ l ∷ []) ≡ length o.lines + 1
    one = let more : length (o.lines ++ l ∷ []) ≡ length o.lines + length (l ∷ []) = length-append o.lines (l ∷ []) in omega (arith, more)

    not : (q : ℕ) (c : Function) → q ≡ next_in w.caller o → TakesAt bodies (made_of f w.caller (opened_with o (l ∷ lines) end ∷ ahead)) q c → ⊥
    not q c at t =
        let line : t.site.call ≡ line_edited (λ n. n) (without w.caller.late.lost.items) l =
        one_line (made_of f w.caller (opened_with o (l ∷ lines) end ∷ ahead)).blocks (next_in w.caller o) t.site (site f f w.caller o l [] lines end ahead)
        (subst (λ (n : ℕ). StandsAt (made_of f w.caller (opened_with o (l ∷ lines) end ∷ ahead)).blocks n t.site) at t.stands) (site_stands f f w.caller o l [] lines end ahead) in
        let counts : w.count ≡ count (made_of f w.caller (opened_with o (l ∷ lines) end ∷ ahead)) = here.counts in
        let room : count (made_of f w.caller (opened_with o (l ∷ lines) end ∷ ahead)) + t.room ≡ 20000 = t.has_room in
        none c (record {
          room = t.room;
          has_room = omega (arith, counts, room);
          takes = takes_before bodies symbol t.room w.caller.late.lost.items l.instr c
              (subst (λ (s : Symbol). Takes bodies s t.room (instr_edited (λ n. n) (without w.caller.late.lost.items) l.instr) c) same (subst (λ (x : Line). Takes bodies f.symbol t.room x.instr c) line t.takes));
        })

-- or takes a body
pub took : (bodies : List ℕ → Option Function) (f callee : Function) (symbol : Symbol) (w w' : Walker) (o o' : Open) (l : Line) (lines : List Line) (end : Terminator) (ahead : List Block) → f.symbol ≡ symbol → TakesNow bodies symbol w.count l.instr callee
    → Inlines f w.caller w'.caller o o' l callee lines end ahead → w'.count ≡ w.count + count callee + length o'.phis → counted_done w'.caller ≡ counted_done w.caller + (length o.phis + length o.lines + 1) + count callee → o'.lines ≡ []
    → IsBegun bodies f w o (l ∷ lines) end ahead → IsBegun bodies f w' o' lines end ahead
took bodies f callee symbol w w' o o' l lines end ahead same takes step many done none here = record {
  ready = step.ready here.ready;
  counts = omega (arith, many, done, old, new, here.counts, empty);
  walks = λ k g walks. here.walks (suc k) g
      (one_more k bodies (next_in w.caller o) (next_in w.caller o) (next_in w'.caller o') (made_of f w.caller (opened_with o (l ∷ lines) end ∷ ahead)) g (made_of f w'.caller (opened_with o' lines end ∷ ahead)) callee first (step.inlined here.ready)
      (omega (arith, done, old, new, empty)) walks);
}
  where
    old : count (made_of f w.caller (opened_with o (l ∷ lines) end ∷ ahead)) ≡ counted_done w.caller + (length o.phis + (length o.lines + length (l ∷ lines)) + 1) + counted_in ahead
    old = count_open f w.caller o (l ∷ lines) end ahead

    new : count (made_of f w'.caller (opened_with o' lines end ∷ ahead)) ≡ counted_done w'.caller + (length o'.phis + (length o'.lines + length lines) + 1) + counted_in ahead
    new = count_open f w'.caller o' lines end ahead

    empty : length o'.lines ≡ 0
    empty = ap length none

    first : IsFirst bodies (made_of f w.caller (opened_with o (l ∷ lines) end ∷ ahead)) (next_in w.caller o) (next_in w.caller o) callee
    first = record {
      behind = omega arith;
      takes = record {
        room = takes.room;
        has_room = omega (arith, takes.has_room, here.counts);
        site = site f f w.caller o l [] lines end ahead;
        stands = site_stands f f w.caller o l [] lines end ahead;
        takes = takes_late bodies f.symbol takes.room w.caller.late.lost.items l.instr callee (subst (λ (s : Symbol). Takes bodies s takes.room l.instr callee) (sym same) takes.takes);
      };
      first = λ q c le lt t. omega (arith, le, lt);
    }

-- a block ends
pub ended_here : (bodies : List ℕ → Option Function) (f : Function) (w w' : Walker) (o : Open) (end : Terminator) (ahead : List Block) → w'.count ≡ w.count → made_of f w'.caller ahead ≡ made_of f w.caller (ended o end ∷ ahead)
    → ((g : Function) → IsReady g w.caller → IsReady g w'.caller) → counted_done w'.caller ≡ counted_done w.caller + counted (ended o end) → IsBegun bodies f w o [] end ahead → IsAhead bodies f w' ahead
ended_here bodies f w w' o end ahead many same ready done here = record {
  ready = subst (λ (h : Function). IsReady h w'.caller) (sym is) (ready (made_of f w.caller (opened_with o [] end ∷ ahead)) here.ready);
  counts = many ∙ here.counts ∙ ap count (sym is);
  walks = λ k g walks. here.walks k g
      (skip k bodies (next_in w.caller o) (counted_done w'.caller + 1) (made_of f w.caller (opened_with o [] end ∷ ahead)) g (omega (arith, done)) none (subst (λ (h : Function). Walks k bodies (counted_done w'.caller + 1) h g) is walks));
}
  where
    is : made_of f w'.caller ahead ≡ made_of f w.caller (opened_with o [] end ∷ ahead)
    is = same ∙ ap (λ (ls : List Line). made_of f w.caller (record { number = o.number; phis = o.phis; lines = ls; end = end } ∷ ahead)) (sym (append-nil o.lines))

    none : (q : ℕ) (c : Function) → next_in w.caller o ≤ q → q < counted_done w'.caller + 1 → TakesAt bodies (made_of f w.caller (opened_with o [] end ∷ ahead)) q c → ⊥
    none q c le lt t =
        let at = in_open f w.caller o [] end ahead q t.site t.stands (omega (arith, le)) (omega (arith, lt, done)) in
        omega (arith, at.0, at.1, le, lt, done)

-- and the walk with the last one
pub walked : (bodies : List ℕ → Option Function) (f g : Function) (w : Walker) → g ≡ made_of f w.caller [] → IsAhead bodies f w [] → IsWalk bodies f g
walked bodies f g w is here = here.walks 0 g (none_more bodies (counted_done w.caller + 1) (made_of f w.caller []) g none is)
  where
    none : (place : ℕ) (callee : Function) → counted_done w.caller + 1 ≤ place → TakesAt bodies (made_of f w.caller []) place callee → ⊥
    none place callee le t =
        let among : place ≤ counted_in (made_of f w.caller []).blocks = place_within (made_of f w.caller []).blocks place t.site t.stands in
        let late : counted_in (made_of f w.caller []).blocks ≡ counted_in (w.caller.done.items ++ []) = late_counts (named_by w.caller.late.halves.items) (without w.caller.late.lost.items) (w.caller.done.items ++ []) in
        let all : counted_in (w.caller.done.items ++ []) ≡ counted_done w.caller = ap counted_in (append-nil w.caller.done.items) in
        omega (arith, among, late, all, le)
