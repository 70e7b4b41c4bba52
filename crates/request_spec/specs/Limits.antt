-- The limits of what a request asks for, each under one name.
-- Assumes nothing.
use Rattle.std.specs.Prelude.{ℕ}

-- 01, The point reader: the antenna's answer, 0 to 8 bytes
abbrev pub most_antenna : ℕ
most_antenna = 8

-- 01, The point reader: the device header, 40 bytes
abbrev pub header_length : ℕ
header_length = 40

-- 001, 'Заголовок устройства': of these the name, 20 bytes
abbrev pub name_length : ℕ
name_length = 20
