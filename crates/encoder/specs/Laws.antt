-- From the block to its bytes.
use Rattle.std.specs.Prelude.{ℕ, ◌<◌, ◌≡◌, List, length, get_or, Ok}
use Rattle.std.proofs.Common.{sym, ap, ◌∙◌}
use Rattle.series.specs.Array.{bytes, bytes_back}
use Rattle.profile.specs.declared.Profile.{Profile}
use Rattle.profile.specs.Definition.{Parsed, block_size}
use Rattle.profile.specs.Valid.{Valid}
use Rattle.code.specs.Definition.{Encodes}
use Rattle.code.specs.Encoding.{encoding-bytes}
use Rattle.encoder.specs.Definition.{written, found}

-- a block of bytes that encodes the data is what is written
pub written_is : (p : Profile) → Valid p → (a : Parsed) (d o s : List ℕ) → a ≡ Ok p → length s ≡ block_size p
    → ((i : ℕ) → get_or s i 0 < 256)
    → Encodes p (bytes d) (bytes s) → s ≡ written a d o
written_is p ok a d o s e l small code =
    sym (ap (λ a. written a d o) e ∙ ap (found o) (encoding-bytes p ok d s l code) ∙ bytes_back s small)
