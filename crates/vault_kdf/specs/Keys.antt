-- The keys of a vault.
use Rattle.std.specs.Prelude.{ℕ, List, slice_range}
use Rattle.vault_kdf.specs.Pbkdf2.{pbkdf2}
use Rattle.vault_kdf.specs.declared.keys.Keys.{Keys}

-- the keys of a vault of the payload formats 1.1 and 1.2: 80 bytes by 10,000 rounds of PBKDF2, cut
-- into the cipher's key, the tag's key and the initial counter block
unfoldable pub vault_keys : List ℕ → List ℕ → Keys
vault_keys password salt =
    let bytes = pbkdf2 password salt 10000 80 in
    record {
      cipher = slice_range bytes 0 32;
      mac = slice_range bytes 32 64;
      iv = slice_range bytes 64 80;
    }
