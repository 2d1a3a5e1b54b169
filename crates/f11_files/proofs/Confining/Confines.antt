-- What carries `ConfinesInOrder` from call to call.
use Rattle.std.proofs.Common.{◌≡◌, ◌≢◌, ◌⊎◌, ℕ, Bool, true, false, IsTrue, List, [], ◌∷◌, ◌++◌, All, get_or, refl, sym, ap, subst, ◌∙◌}
use Rattle.std.proofs.Common.{append_assoc, arith}
use Rattle.std.proofs.lemmas.List.Elements.{All-append}
use Rattle.std.proofs.lemmas.List.{append_cancel_right}
use Rattle.f11_bits.specs.Bitmap.{Bitmap}
use Rattle.f11_dev.specs.Disk.{Disk, with_transfer, with_block_at}
use Rattle.f11_dev.specs.Image.{Image}
use Rattle.f11_dev.specs.Looked.{Looked}
use Rattle.f11_dev.specs.Went.{Went, newest}
use Rattle.f11_dev.proofs.WentLemmas.{went_looked, went_write, went_failed_write}
use Rattle.f11_home.specs.Home.{HomeFields}
use Rattle.f11_index.specs.IndexFile.{Index}
use Rattle.f11_store.specs.Changes.{is_in}
use Rattle.f11_image_store.specs.Confines.{IsNoPart, Spares, AreAlike}
use Rattle.f11_image_store.proofs.ConfinesLemmas.{spares-other}
use Rattle.f11_writes.specs.Order.{AreInOrder, WritesInOrder}
use Rattle.f11_writes.proofs.InOrderLemmas.{newest-append, order-looked, order-then, unwritten}
use Rattle.f11_files.specs.Confined.{ConfinesInOrder}

-- what was written in order
pub in-order : {headers : ℕ → Bool} {index : Index} {bitmap : Bitmap} {others : List ℕ} {old new : Disk}
    → ConfinesInOrder headers index bitmap others old new → WritesInOrder old new
in-order one = record {
  ordered = λ honest.
      record { since = one.since; history = one.history; image = one.image; honest = one.honest; each = one.ordered honest };
}

-- where the disk is honest
pub in-order-if : {headers : ℕ → Bool} {index : Index} {bitmap : Bitmap} {others : List ℕ} {old new : Disk}
    → (IsTrue old.honest → ConfinesInOrder headers index bitmap others old new) → WritesInOrder old new
in-order-if one = record { ordered = λ honest. (in-order (one honest)).ordered honest }

-- the same images stood
order-since : {old new : Disk} (since : List Image) → new.history ≡ since ++ old.history → WritesInOrder old new → IsTrue old.honest
    → (home : HomeFields) → AreInOrder home old.image since
order-since {old} {new} since history order honest home =
    let made = order.ordered honest in
    subst (AreInOrder home old.image) (append_cancel_right made.since since old.history (sym made.history ∙ history)) (made.each home)

-- what is known of each image that stood meanwhile
pub confines-went : (headers : ℕ → Bool) (index : Index) (bitmap : Bitmap) (others : List ℕ) {P : Image → Type 0} {old new : Disk}
    {most faults : ℕ} → ((image : Image) → P image → Spares headers index bitmap others old.image image)
    → Went P old new most faults → WritesInOrder old new → ConfinesInOrder headers index bitmap others old new
confines-went headers index bitmap others spares went order = record {
  since = went.since;
  history = went.history;
  image = went.image;
  honest = went.honest;
  each = λ k d within. spares (get_or went.since k d) (went.each k d within);
  ordered = order-since went.since went.history order;
}

pub confines-looked : (headers : ℕ → Bool) (index : Index) (bitmap : Bitmap) (others : List ℕ) {old new : Disk} {most faults : ℕ}
    → Looked old new most faults → ConfinesInOrder headers index bitmap others old new
confines-looked headers index bitmap others {old = old} {new = new} {most = most} {faults = faults} looked =
    confines-went headers index bitmap others (λ image is. is) (went_looked (Spares headers index bitmap others old.image) looked)
    (order-looked old new most faults looked)

pub confines-none : (headers : ℕ → Bool) (index : Index) (bitmap : Bitmap) (others : List ℕ) (disk : Disk)
    → ConfinesInOrder headers index bitmap others disk disk
confines-none headers index bitmap others disk = record {
  since = [];
  history = refl;
  image = refl;
  honest = refl;
  each = λ k d within. absurd (omega arith);
  ordered = λ _ home. unwritten home disk.image;
}

pub confines-write : (headers : ℕ → Bool) (index : Index) (bitmap : Bitmap) (others : List ℕ) (old new : Disk) (lbn : ℕ) (block : List ℕ)
    → ((l : ℕ) → IsNoPart headers index bitmap l → is_in others l ≡ false → lbn ≢ l)
    → new ≡ with_transfer true (with_block_at lbn block old) → WritesInOrder old new → ConfinesInOrder headers index bitmap others old new
confines-write headers index bitmap others old new lbn block apart wrote =
    confines-went headers index bitmap others (λ image is. is)
    (went_write (Spares headers index bitmap others old.image) old new lbn block wrote
    (spares-other headers index bitmap others old.image lbn block apart))

pub confines-failed : (headers : ℕ → Bool) (index : Index) (bitmap : Bitmap) (others : List ℕ) (old new : Disk) (lbn : ℕ) (block : List ℕ)
    → ((l : ℕ) → IsNoPart headers index bitmap l → is_in others l ≡ false → lbn ≢ l)
    → (new ≡ with_transfer false old) ⊎ (new ≡ with_transfer false (with_block_at lbn block old)) → WritesInOrder old new
    → ConfinesInOrder headers index bitmap others old new
confines-failed headers index bitmap others old new lbn block apart is =
    confines-went headers index bitmap others (λ image is. is)
    (went_failed_write (Spares headers index bitmap others old.image) old new lbn block is
    (spares-other headers index bitmap others old.image lbn block apart))

-- the last image spares what each does
spares-newest : (headers : ℕ → Bool) (index : Index) (bitmap : Bitmap) (others : List ℕ) (old : Image) (since : List Image)
    → All (Spares headers index bitmap others old) since → Spares headers index bitmap others old (newest since old)
spares-newest headers index bitmap others old [] each = λ l none out. refl
spares-newest headers index bitmap others old (image ∷ earlier) each = each 0 image (omega arith)

pub confines-last : (headers : ℕ → Bool) (index : Index) (bitmap : Bitmap) (others : List ℕ) {old new : Disk}
    → ConfinesInOrder headers index bitmap others old new → Spares headers index bitmap others old.image new.image
confines-last headers index bitmap others {old = old} one =
    subst (Spares headers index bitmap others old.image) (sym one.image)
    (spares-newest headers index bitmap others old.image one.since one.each)

-- what is no part of more is none of less
pub fewer-part : (headers fewer : ℕ → Bool) (index : Index) (bitmap : Bitmap) → ((n : ℕ) → fewer n ≡ true → headers n ≡ true) → (lbn : ℕ)
    → IsNoPart headers index bitmap lbn → IsNoPart fewer index bitmap lbn
fewer-part headers fewer index bitmap may lbn none =
    record { header = λ n is. none.header n (may n is); index_bitmap = none.index_bitmap; storage = none.storage }

-- fewer headers, and fewer blocks
pub confines-wider : (headers fewer : ℕ → Bool) (index : Index) (bitmap : Bitmap) (others more : List ℕ) {old new : Disk}
    → ((n : ℕ) → fewer n ≡ true → headers n ≡ true)
    → ((l : ℕ) → is_in others l ≡ false → is_in more l ≡ false) → ConfinesInOrder fewer index bitmap more old new
    → ConfinesInOrder headers index bitmap others old new
confines-wider headers fewer index bitmap others more may less one = record {
  since = one.since;
  history = one.history;
  image = one.image;
  honest = one.honest;
  each = λ k d within l none out. one.each k d within l (fewer-part headers fewer index bitmap may l none) (less l out);
  ordered = one.ordered;
}

-- one call after another
pub confines-then : (headers last : ℕ → Bool) (index after : Index) (bitmap later : Bitmap) (others more : List ℕ) {a b c : Disk}
    → ((l : ℕ) → IsNoPart headers index bitmap l → is_in others l ≡ false → IsNoPart last after later l)
    → ((l : ℕ) → is_in others l ≡ false → is_in more l ≡ false)
    → ConfinesInOrder headers index bitmap others a b → ConfinesInOrder last after later more b c
    → ConfinesInOrder headers index bitmap others a c
confines-then headers last index after bitmap later others more {a = a} {b = b} {c = c} stands fewer one two =
    let history = two.history ∙ ap (λ (h : List Image). two.since ++ h) one.history ∙ sym (append_assoc two.since one.since a.history) in
    record {
      since = two.since ++ one.since;
      history = history;
      image = two.image ∙ ap (newest two.since) one.image ∙ sym (newest-append two.since one.since a.image);
      honest = two.honest ∙ one.honest;
      each = All-append (Spares headers index bitmap others a.image) two.since one.since
          (λ k d within l none out. two.each k d within l (stands l none out) (fewer l out) ∙ confines-last headers index bitmap others one
          l none out) one.each;
      ordered = order-since (two.since ++ one.since) history (order-then a b c (in-order one) (in-order two));
    }

pub alike-same : (index : Index) (bitmap : Bitmap) → AreAlike index index bitmap bitmap
alike-same index bitmap = record { headers = refl; bitmap_lbn = refl; bitmap_blocks = refl; places = refl }
