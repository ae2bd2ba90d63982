-- What traces show, one behind the other.
use Rattle.std.proofs.Common.{◌≡◌, ℕ, ◌+◌, List, [], ◌∷◌, ◌++◌, Option, Some, None, refl, sym, ap, subst, ◌∙◌, arith}
use Rattle.std.proofs.lemmas.List.{append_assoc, append-nil}
use Rattle.std.specs.Io.KnownBytes.{Appends, Keeps}
use Rattle.ir_meaning.specs.Program.{Broken, Done, Next, On, State}
use Rattle.ir_meaning.specs.Run.{Ran, run_on}
use Rattle.ir_meaning.specs.declared.event.Event.{Event}
use Rattle.ir_meaning.specs.declared.event.Event.TheVariants.{ReadByte, ReadEnd, Wrote}
use Rattle.ir_interp.specs.Runs.{Agree, bytes_read, reads, written}

-- ---- events

pub read_both : (es fs : List Event) → bytes_read (es ++ fs) ≡ bytes_read es + bytes_read fs
read_both [] fs = omega arith
read_both (ReadByte b ∷ es) fs = omega (arith, read_both es fs)
read_both (ReadEnd ∷ es) fs = read_both es fs
read_both (Wrote b ∷ es) fs = read_both es fs

pub written_both : (es fs : List Event) → written (es ++ fs) ≡ written es ++ written fs
written_both [] fs = refl
written_both (ReadByte b ∷ es) fs = written_both es fs
written_both (ReadEnd ∷ es) fs = written_both es fs
written_both (Wrote b ∷ es) fs = ap (λ (bs : List ℕ). b ∷ bs) (written_both es fs)

pub reads_both : (es fs : List Event) → reads (es ++ fs) ≡ reads es ++ reads fs
reads_both [] fs = refl
reads_both (ReadByte b ∷ es) fs = ap (λ (rs : List (Option ℕ)). Some b ∷ rs) (reads_both es fs)
reads_both (ReadEnd ∷ es) fs = ap (λ (rs : List (Option ℕ)). None ∷ rs) (reads_both es fs)
reads_both (Wrote b ∷ es) fs = reads_both es fs

pub quiet_behind : (es fs : List Event) → fs ≡ [] → es ++ fs ≡ es
quiet_behind es fs none = ap (λ (gs : List Event). es ++ gs) none ∙ append-nil es

-- ---- reads that agree

pub agree_front : (xs ys zs : List (Option ℕ)) → Agree xs (ys ++ zs) → Agree xs ys
agree_front [] ys zs a = tt
agree_front (x ∷ xs) [] zs a = tt
agree_front (x ∷ xs) (y ∷ ys) zs a = (a.0, agree_front xs ys zs a.1)

agree_first : (xs ys zs : List (Option ℕ)) → Agree (xs ++ ys) zs → Agree xs zs
agree_first [] ys zs a = tt
agree_first (x ∷ xs) ys [] a = tt
agree_first (x ∷ xs) ys (z ∷ zs) a = (a.0, agree_first xs ys zs a.1)

pub agree_behind : (xs ys zs : List (Option ℕ)) → Agree (xs ++ ys) (xs ++ zs) → Agree ys zs
agree_behind [] ys zs a = a
agree_behind (x ∷ xs) ys zs a = agree_behind xs ys zs a.1

-- those of the first step of a run
pub first_agrees : (go : State → Ran) (shown : List Event) (next : Next) (rs : List (Option ℕ)) → Agree (reads (run_on go shown next).trace) rs → Agree (reads shown) rs
first_agrees go shown (On s) rs a = agree_first (reads shown) (reads (go s).trace) rs (subst (λ (xs : List (Option ℕ)). Agree xs rs) (reads_both shown (go s).trace) a)
first_agrees go shown (Done answer memory place) rs a = a
first_agrees go shown (Broken failure) rs a = a

-- ---- what was sent

pub sent_none : (sent : Option (List ℕ)) → Appends sent sent []
sent_none None = tt
sent_none (Some xs) = sym (append-nil xs)

pub sent_more : (a b c : Option (List ℕ)) (xs ys : List ℕ) → Appends a b xs → Appends b c ys → Appends a c (xs ++ ys)
sent_more None b c xs ys g h = tt
sent_more (Some as') None c xs ys g h = absurd g
sent_more (Some as') (Some bs) None xs ys g h = absurd h
sent_more (Some as') (Some bs) (Some cs) xs ys g h = h ∙ ap (λ (zs : List ℕ). zs ++ ys) g ∙ append_assoc as' xs ys

-- nothing was sent since
pub sent_still : (a b c : Option (List ℕ)) (xs : List ℕ) → Appends a b xs → Keeps b c → Appends a c xs
sent_still None b c xs g h = tt
sent_still (Some as') None c xs g h = absurd g
sent_still (Some as') (Some bs) None xs g h = absurd h
sent_still (Some as') (Some bs) (Some cs) xs g h = h ∙ g

pub keeps_same : (sent : Option (List ℕ)) → Keeps sent sent
keeps_same None = tt
keeps_same (Some xs) = refl
