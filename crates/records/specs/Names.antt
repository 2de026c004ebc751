-- The names of attributes.
use Rattle.std.specs.Prelude.{◌≡◌, ℕ, List, codes}
use Rattle.records.specs.declared.attribute.Attribute.{Attribute}
use Rattle.records.specs.declared.attribute.Key.{Key}
use Rattle.records.specs.declared.attribute.Attribute.TheVariants.{CacheControl, ContentDisposition, ContentEncoding, ContentLanguage, ContentType, Metadata}
use Rattle.records.specs.Bytes.{bytes_of}

unfoldable pub name_of : Attribute → List ℕ
name_of CacheControl = codes "Cache-Control"
name_of ContentDisposition = codes "Content-Disposition"
name_of ContentEncoding = codes "Content-Encoding"
name_of ContentLanguage = codes "Content-Language"
name_of ContentType = codes "Content-Type"
name_of (Metadata k) = bytes_of k.name

-- none of the five names
pub record Unknown (name : List ℕ) : Type 0 where
  pub no_cache_control : name ≡ name_of CacheControl → ⊥
  pub no_content_disposition : name ≡ name_of ContentDisposition → ⊥
  pub no_content_encoding : name ≡ name_of ContentEncoding → ⊥
  pub no_content_language : name ≡ name_of ContentLanguage → ⊥
  pub no_content_type : name ≡ name_of ContentType → ⊥

-- the attribute that a key names: metadata only where it is none of the five names
abbrev pub Named : Key → Attribute → Type 0
Named k CacheControl = bytes_of k.name ≡ name_of CacheControl
Named k ContentDisposition = bytes_of k.name ≡ name_of ContentDisposition
Named k ContentEncoding = bytes_of k.name ≡ name_of ContentEncoding
Named k ContentLanguage = bytes_of k.name ≡ name_of ContentLanguage
Named k ContentType = bytes_of k.name ≡ name_of ContentType
Named k (Metadata j) = (j ≡ k) × Unknown (bytes_of k.name)
