-- Files whose headers stay, and name what they named.
use Rattle.std.proofs.Common.{◌≡◌, ℕ, Bool, true, false, cond, List, [], ◌∷◌, ◌++◌, Some, None, option_map, refl, sym, ap, ◌∙◌, leb, suc}
use Rattle.std.proofs.Common.{arith}
use Rattle.std.specs.Prelude.{Contains}
use Rattle.std.specs.List.{flat_map}
use Rattle.std.proofs.lemmas.Option.{same_Some}
use Rattle.f11_dev.specs.Image.{Image}
use Rattle.f11_volume.specs.home.Home.{HomeFields}
use Rattle.f11_index.specs.Headers.{headers_of}
use Rattle.f11_index.specs.Table.{Table, table_of, IsFile, IsWholeFile}
use Rattle.f11_index.proofs.HeadersLemmas.{listed-are}
use Rattle.f11_store.specs.File.{File}
use Rattle.f11_volume.specs.Contents.{file_of}
use Rattle.f11_volume.specs.Sound.{HasSoundVolume}
use Rattle.f11_volume.proofs.FileLemmas.{file-headers-are, image-files}
use Rattle.f11_image_store.specs.Allocation.{named_by}
use Rattle.f11_image_store.specs.AllocationLaws.{FileKeepsBlocks}
use Rattle.f11_image_store.specs.StoreOf.{as_seen, file_at, is_first, store_of}
use Rattle.f11_image_store.proofs.AllocationLawLemmas.{files-named}
use Rattle.f11_image_store.proofs.StoreLemmas.{file-at, first-is-tested}

-- what each of some headers names, laid end to end
alike : (t u : Table) (hs : List ℕ) → ((n : ℕ) → Contains hs n → named_by u n ≡ named_by t n)
    → flat_map (named_by u) hs ≡ flat_map (named_by t) hs
alike t u [] same = refl
alike t u (h ∷ hs) same =
    ap (λ (l : List ℕ). l ++ flat_map (named_by u) hs) (same h (0, omega arith, refl))
    ∙ ap (λ (l : List ℕ). named_by t h ++ l) (alike t u hs (λ n (i, within, is). same n (suc i, omega (arith, within), is)))

-- the headers of a file as it is seen
held-seen : (n : ℕ) (f : File) → (as_seen n f).held ≡ f.held
held-seen n f = go (leb n 3)
  where
    go : (b : Bool) → (cond b (record f { blocks = [] }) f).held ≡ f.held
    go true = refl
    go false = refl

-- of a file that the store has
module _ (image : Image) (home : HomeFields) (f : ℕ) (sound : HasSoundVolume image home) (file : IsFile (table_of image home) f) where
  whole : IsWholeFile (table_of image home) f
  whole = ((image-files image home sound).each f file).whole

  pub held-stored : option_map (λ (g : File). g.held) ((store_of image home).file f) ≡ Some (headers_of (table_of image home) f)
  unfolding store_of
  held-stored =
      ap (option_map (λ (g : File). g.held))
      (file-at image (table_of image home) f (Some (as_seen f (file_of image (table_of image home) f))) (λ _. refl)
      (λ none. absurd (none file)))
      ∙ ap Some (held-seen f (file_of image (table_of image home) f) ∙ file-headers-are image (table_of image home) f whole)

-- a file that the store tells of is there
pub is-stored : (image : Image) (home : HomeFields) (f : ℕ) (hs : List ℕ)
    → option_map (λ (g : File). g.held) ((store_of image home).file f) ≡ Some hs → IsFile (table_of image home) f
unfolding store_of
is-stored image home f hs is = go (is_first (table_of image home) f) refl
  where
    t : Table
    t = table_of image home

    go : (b : Bool) → is_first t f ≡ b → IsFile t f
    go true first = (first-is-tested t f).0 first
    go false first =
        let none : file_at image t f ≡ None =
        file-at image t f None (λ file. let no : true ≡ false = sym ((first-is-tested t f).1 file) ∙ first in absurd cc) (λ _. refl) in
        let no : None ≡ Some hs = ap (option_map (λ (g : File). g.held)) (sym none) ∙ is in
        absurd cc

pub file-keeps-blocks : FileKeepsBlocks
file-keeps-blocks home old new f sound sound' file held names =
    let t : Table = table_of old home in
    let u : Table = table_of new home in
    let was = held-stored old home f sound file in
    let file' : IsFile u f = is-stored new home f (headers_of t f) (held ∙ was) in
    let headers : headers_of u f ≡ headers_of t f = same_Some (headers_of u f) (headers_of t f)
    (sym (held-stored new home f sound' file') ∙ held ∙ was) in
    files-named u f (whole new home f sound' file') ∙ ap (flat_map (named_by u)) headers
    ∙ alike t u (headers_of t f) (λ n listed. names n (listed-are t f n (whole old home f sound file) listed))
    ∙ sym (files-named t f (whole old home f sound file))
