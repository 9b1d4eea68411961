-- The URL to which the names of an application's files are joined.
use Rattle.url.specs.Parts.{Parts}
use Rattle.addresses.specs.declared.file_base.FileBase.{FileBase}

-- the parts of that URL
abbrev pub document_of : FileBase → Parts
document_of base = base.document
