-- What is true of list files.
use Rattle.std.specs.Prelude.{◌≡◌, ◌⊎◌, ℕ, List}
use Rattle.lto_words.specs.Listing.{FirstBadLine, IsList}
use Rattle.lto_words.specs.declared.listing.ListedLink.{ListedLink}

-- each file lists links or has a line that is none
abbrev pub EitherListOrBad : Type 0
EitherListOrBad = (bytes : List ℕ) → ((links : List ListedLink) × IsList bytes links) ⊎ ((line : ℕ) × FirstBadLine bytes line)

-- and not both
abbrev pub ListHasNoBadLine : Type 0
ListHasNoBadLine = (bytes : List ℕ) (links : List ListedLink) (line : ℕ) → IsList bytes links → FirstBadLine bytes line → ⊥

-- no file lists two lists of links
abbrev pub OneList : Type 0
OneList = (bytes : List ℕ) (links others : List ListedLink) → IsList bytes links → IsList bytes others → links ≡ others

-- none has two first bad lines
abbrev pub OneBadLine : Type 0
OneBadLine = (bytes : List ℕ) (line other : ℕ) → FirstBadLine bytes line → FirstBadLine bytes other → line ≡ other
