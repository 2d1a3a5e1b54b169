-- The files that no directory names, one after another.
use Rattle.std.proofs.Common.{◌≡◌, ◌+◌, ◌<◌, ◌≤◌, ◌&&◌, ℕ, Bool, true, false, not, List, [], ◌∷◌}
use Rattle.std.proofs.Common.{cond, sym, ap, subst, ◌∙◌, inl, inr, arith, if◌then◌else◌}
use Rattle.std.proofs.lemmas.Bool.{cases_Bool}
use Rattle.f11_chain.specs.Calls.{FindsNoFile, table}
use Rattle.f11_dev.specs.Disk.{Disk}
use Rattle.f11_header.specs.Fields.{file_sequence, ident_area}
use Rattle.f11_image_store.proofs.StoreLemmas.{first-is-tested}
use Rattle.f11_image_store.specs.StoreOf.{is_first}
use Rattle.f11_index.specs.IndexFile.{Index, slots}
use Rattle.f11_index.specs.Table.{IsFile, Table}
use Rattle.f11_reader.specs.Reading.{OpensSlot, header_in_hand, id_in_hand}
use Rattle.f11_reader.specs.declared.file.FileReader.{FileReader}
use Rattle.f11_catalog.specs.AllDirectories.{id_at, name_in}
use Rattle.f11_catalog.specs.AllFiles.{place_lost}
use Rattle.f11_catalog.specs.Steps.{EntersNone}
use Rattle.f11_catalog.specs.Walking.{FindsLost, FindsNoOther, FindsOther}
use Rattle.f11_catalog.specs.declared.walk.content.Content.TheVariants.{File}
use Rattle.f11_catalog.specs.declared.walk.place.FileAt.{FileAt}
use Rattle.f11_catalog.specs.declared.walk.place.Place.{Place}
use Rattle.f11_catalog.specs.declared.walk.place.Place.TheVariants.{Lost}
use Rattle.f11_catalog.specs.declared.walk.state.Numbers.{Numbers}
use Rattle.f11_catalog.proofs.ListingLemmas.{reads-none}
use Rattle.f11_catalog.proofs.ScanLemmas.{SeesNone, none-first, none-here, sees-front}
use Rattle.f11_catalog.proofs.WalkLemmas.{opens-behind}

-- where file n stands if it is lost
abbrev pub lost_at : Table → ℕ → Place
lost_at t n = Lost (name_in (ident_area (t.header n))) (id_at t n)

-- the place of a file, by what is known of its number
pub lost-if : (t : Table) (known : ℕ → Bool) (n : ℕ) (first met : Bool) → is_first t n ≡ first → known n ≡ met
    → place_lost t known n ≡ (if first && not met then lost_at t n ∷ [] else [])
lost-if t known n first met is so =
    ap (λ (b : Bool). cond (b && not (known n)) (lost_at t n ∷ []) []) is
    ∙ ap (λ (b : Bool). cond (first && not b) (lost_at t n ∷ []) []) so

-- A slot was looked at.
module _ (known : ℕ → Bool) (index : Index) (n : ℕ) (old new : Disk) where
  pub lost-one : (found : FileAt) (file : FileReader) → found.content ≡ File file → known n ≡ false → OpensSlot index n file old new
      → found.place ≡ Lost (name_in (ident_area (header_in_hand file))) (id_in_hand file)
      → FindsLost (λ image t. place_lost t known n) index found old new
  lost-one found file content unknown opens place = record {
    one = λ honest.
        let t : Table = table index old in
        let first : IsFile t n = subst (λ (k : ℕ). IsFile t k) opens.number (opens.opens.is_id honest).file in
        lost-if t known n true false ((first-is-tested t n).1 first) unknown
        ∙ ap (λ (k : ℕ). lost_at t k ∷ []) (sym opens.number)
        ∙ ap (λ (h : List ℕ). Lost (name_in (ident_area h)) (record { number = file.number; sequence = file_sequence h; volume = 0 }) ∷ [])
        (sym (opens.opens.header_is honest))
        ∙ ap (λ (p : Place). p ∷ []) (sym place);
    opens = record {
      file = file;
      content = content;
      opens = record { mid = old; before = reads-none old; opens = rw place opens.opens };
    };
  }

  pub lost-none : FindsNoFile index n old new → EntersNone (λ image t. place_lost t known n) index old new
  lost-none none = record {
    none = λ honest.
        let t : Table = table index old in
        elim (cases_Bool (is_first t n)) [
          | inl first ↦ absurd (none.no_file honest ((first-is-tested t n).0 first))
          | inr other ↦ ap (λ (b : Bool). cond (b && not (known n)) (lost_at t n ∷ []) []) other
        ];
    reads = (_, none.looked);
  }

-- So many slots were looked at, and none has such a file.
module _ (known : ℕ → Bool) (index : Index) (first here : Numbers) (old now : Disk)
    (seen : SeesNone (λ image t. place_lost t known) index first here old now) where
  -- nor has another one
  pub lost-all : slots index < here.next → FindsNoOther known index first here old now
  lost-all past = record {
    none = λ honest. none-first (λ known image t. place_lost t known) known index first here old now seen past honest;
    ended = λ _. none-here (λ known image t. place_lost t known) known index first here old now seen past;
    reads = seen.reads;
  }

  -- or the next one has
  pub sees-one : (later : Numbers) → here.next ≤ slots index → later.next ≡ here.next + 1 → (met : ℕ → Bool) (n : ℕ) → met ≡ known
      → n ≡ here.next → (found : FileAt) (new : Disk) → FindsLost (λ image t. place_lost t met n) index found now new
      → FindsOther known index first later found old new
  sees-one later inside on met n same-met same-n found new one = record {
    next = λ honest.
        sees-front (λ known image t. place_lost t known) known index first here old now seen later inside on met n same-met same-n
        (found.place ∷ []) one.one honest;
    forward = omega (arith, seen.forward, on);
    opens = opens-behind index found old now new seen.reads one.opens;
  }
