-- The words of a record in a block.
use Rattle.std.proofs.Common.{◌≡◌, ℕ, ◌+◌, ◌*◌, ◌<◌, ◌≤◌, List, [], ◌∷◌, length, drop, get_or, sym, ◌∙◌, ap, arith}
use Rattle.std.specs.List.{flat_map}
use Rattle.std.proofs.lemmas.List.{get_or-take, get_or-drop}
use Rattle.f11_bytes.specs.Words.{word, word_bytes}
use Rattle.f11_store.specs.rad50.Name.{IsName, words_of}
use Rattle.f11_store.specs.declared.files.FileId.{FileId}
use Rattle.f11_store.specs.Directory.{record_in, record_bytes}
use Rattle.f11_store.specs.Laws.{IsFiveWords}
use Rattle.f11_store.proofs.DirectoryLaws.{five_words, record_id-record_bytes, record_name-record_bytes}
use Rattle.f11_dir.specs.Records.{record_of_bytes}

-- a byte of a record
byte-record_in : (b : List ℕ) (i at : ℕ) → at < 16 → get_or (record_in b i) at 0 ≡ get_or b (16 * i + at) 0
byte-record_in b i at within = get_or-take 16 (drop (16 * i) b) at 0 within ∙ get_or-drop (16 * i) b at 0

-- a word of a record
pub word-record_in : (b : List ℕ) (i at : ℕ) → at ≤ 14 → word (record_in b i) at ≡ word b (16 * i + at)
word-record_in b i at within =
    let low = byte-record_in b i at (omega arith) in
    let next : 16 * i + (at + 1) ≡ 16 * i + at + 1 = omega arith in
    let high = byte-record_in b i (at + 1) (omega arith) ∙ ap (λ n. get_or b n 0) next in
    omega (arith, low, high)

-- the words of a name are five
length-name : (name : List ℕ) → IsName name → IsFiveWords name
unfolding words_of
length-name name is = sym (ap length is.same_words)

-- the eight words of a record
pub record_bytes-words :
    (id : FileId) (name words : List ℕ) → IsName name → words ≡ name →
    flat_map word_bytes (id.number ∷ id.sequence ∷ id.volume ∷ get_or words 0 0 ∷ get_or words 1 0 ∷ get_or words 2 0 ∷ get_or words 3 0 ∷
    get_or words 4 0 ∷ [])
    ≡ record_bytes id name
unfolding record_bytes
record_bytes-words id name words is same =
    rw same (ap (λ n. flat_map word_bytes (id.number ∷ id.sequence ∷ id.volume ∷ n)) (sym (five_words name (length-name name is))))

-- what a record says is what was put there
pub record_of_bytes-record_bytes : (id : FileId) (name : List ℕ) → IsName name
    → record_of_bytes (record_bytes id name) ≡ record { id = id; words = name }
record_of_bytes-record_bytes id name is = λ i. record {
  id = record_id-record_bytes id name i;
  words = record_name-record_bytes id name (length-name name is) i;
}
