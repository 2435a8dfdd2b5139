-- What reading a code says of a byte that is none.
use Rattle.records.specs.declared.code.UnknownCode.{UnknownCode}

abbrev pub unknown_code : UnknownCode
unknown_code = record {}
