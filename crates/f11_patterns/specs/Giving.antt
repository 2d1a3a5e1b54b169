-- Names that files of the host get on a kind of volume: their own, and fitted ones for those that have none there (profile).
use Rattle.std.specs.Prelude.{◌≡◌, ◌≢◌, ◌⊎◌, ℕ, ⊤, Bool, not, if◌then◌else◌, List, [], ◌∷◌, ◌++◌, All, Option, Some, None, fold, find}
use Rattle.std.specs.Prelude.{option_map}
use Rattle.std.specs.List.{list_any, range_with_len}
use Rattle.std.specs.Option.{option_or}
use Rattle.f11_patterns.specs.declared.names.HostNames.{HostNames}
use Rattle.f11_patterns.specs.declared.names.HostNames.TheVariants as host

-- a text ends in a slash (47)
abbrev pub EndsInSlash : List ℕ → Type 0
EndsInSlash text = (dir : List ℕ) × (text ≡ dir ++ 47 ∷ [])

-- The last part of a path stands behind its last slash, and is all of one without.
pub record IsLastPart (path part : List ℕ) : Type 0 where
  pub front : List ℕ
  pub whole : path ≡ front ++ part
  pub behind : (front ≡ []) ⊎ EndsInSlash front
  pub last : All (λ c. c ≢ 47) part

-- The names of a kind of volume: which one the last part of a path is, beside those that are there, or that it is none; the candidate of a
-- number for one that is none; whether something of it stays in that; and which names count as the same.
pub record Naming (X : Type 0) : Type 1 where
  pub IsNamed : List X → Option X → List ℕ → Type 0
  pub candidate : List ℕ → ℕ → X
  pub has_some : List ℕ → Bool
  pub are_alike : X → X → Bool

-- none of these names counts as the candidate of a number
abbrev pub is_free : {X : Type 0} → Naming X → List X → List ℕ → ℕ → Bool
is_free naming there part number = not (list_any (naming.are_alike (naming.candidate part number)) there)

-- the first number below a million whose candidate is free
unfoldable pub first_free : (ℕ → Bool) → Option ℕ
first_free is_free = find is_free (range_with_len 0 1000000)

-- the first candidate that is free
abbrev pub first_candidate : {X : Type 0} → Naming X → List X → List ℕ → Option X
first_candidate naming there part = option_map (naming.candidate part) (first_free (is_free naming there part))

-- The fitted name beside these is that, and there is none where nothing stays.
abbrev pub fitted_among : {X : Type 0} → Naming X → List X → List ℕ → Option X
fitted_among naming there part = if naming.has_some part then first_candidate naming there part else None

-- What has a name of its own gets no fitted one.
abbrev pub fitted_unless : {X : Type 0} → Option X → Option X → Option X
fitted_unless (Some own) fitted = None
fitted_unless None fitted = fitted

-- Beside the names that are there a file of the host with this path gets this one, or none.
abbrev pub Giving : Type 0 → Type 1
Giving X = List X → List ℕ → Option X → Type 0

-- It gets its own name by the last part of its path,
pub record GetsOwn {X : Type 0} (naming : Naming X) (there : List X) (path : List ℕ) (name : Option X) : Type 0 where
  pub part : List ℕ
  pub last : IsLastPart path part
  pub is : naming.IsNamed there name part

-- and the name that is fitted to that part where this is none.
pub record GetsFitted {X : Type 0} (naming : Naming X) (there : List X) (path : List ℕ) (name : Option X) : Type 0 where
  pub part : List ℕ
  pub last : IsLastPart path part
  pub own : Option X
  pub is : naming.IsNamed there own part
  pub fitted : name ≡ fitted_unless own (fitted_among naming there part)

-- these names, and one more, if it is one
abbrev pub with_name : {X : Type 0} → List X → Option X → List X
with_name there (Some name) = there ++ name ∷ []
with_name there None = there

-- these names, and all of those
abbrev pub with_names : {X : Type 0} → List X → List (Option X) → List X
with_names there names = fold with_name there names

-- Files get such names, one behind another: each beside those that are there, and those that the ones before it got.
abbrev pub GetInTurn : {X : Type 0} → Giving X → List X → List (List ℕ) → List (Option X) → Type 0
GetInTurn Gets there [] [] = ⊤
GetInTurn Gets there [] (name ∷ names) = ⊥
GetInTurn Gets there (path ∷ paths) [] = ⊥
GetInTurn Gets there (path ∷ paths) (name ∷ names) = Gets there path name × GetInTurn Gets (with_name there name) paths names

-- Each has its own name, and the fitted one where it has none.
abbrev pub own_or_fitted : {X : Type 0} → List (Option X) → List (Option X) → List (Option X)
own_or_fitted [] fits = []
own_or_fitted (own ∷ owns) [] = []
own_or_fitted (own ∷ owns) (fitted ∷ fits) = option_or own fitted ∷ own_or_fitted owns fits

-- All those that have one get their own names, in turn; and then the others get fitted ones, in turn and beside all of those.
pub record GetOwnOrFitted {X : Type 0} (naming : Naming X) (there : List X) (paths : List (List ℕ)) (names : List (Option X)) : Type 0 where
  pub owns : List (Option X)
  pub fits : List (Option X)
  pub own : GetInTurn (GetsOwn naming) there paths owns
  pub fitted : GetInTurn (GetsFitted naming) (with_names there owns) paths fits
  pub are : names ≡ own_or_fitted owns fits

-- Files of the host with these paths get these names beside those that are there: as they are, or fitted where they are none.
abbrev pub GetNames : {X : Type 0} → Naming X → HostNames → List X → List (List ℕ) → List (Option X) → Type 0
GetNames naming host.AsTheyAre there paths names = GetInTurn (GetsOwn naming) there paths names
GetNames naming host.Fitted there paths names = GetOwnOrFitted naming there paths names
