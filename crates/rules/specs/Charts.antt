-- The charts of threads, and the blank thumbnail.
-- A port of src/formats/pec_data.rs and src/formats/jef_data.rs of zigzag, changed.
use Rattle.std.specs.Prelude.{ℕ, List, [], ◌∷◌, replicate}
use Rattle.rules.specs.Vocabulary.{joined}
use Rattle.rules.specs.declared.Color.{Color}

-- red, green, blue
abbrev pub color : ℕ → ℕ → ℕ → Color
color r g b = record { 0 = r; 1 = g; 2 = b }

-- PEC's chart of 65 threads. Entry 0 is never chosen.
unfoldable pub pec_chart : List Color
pec_chart =
    color 0 0 0 ∷ color 14 31 124 ∷ color 10 85 163 ∷ color 0 135 119 ∷ color 75 107 175
    ∷ color 237 23 31 ∷ color 209 92 0 ∷ color 145 54 151 ∷ color 228 154 203 ∷ color 145 95 172
    ∷ color 158 214 125 ∷ color 232 169 0 ∷ color 254 186 53 ∷ color 255 255 0 ∷ color 112 188 31
    ∷ color 186 152 0 ∷ color 168 168 168 ∷ color 125 111 0 ∷ color 255 255 179 ∷ color 79 85 86
    ∷ color 0 0 0 ∷ color 11 61 145 ∷ color 119 1 118 ∷ color 41 49 51 ∷ color 42 19 1
    ∷ color 246 74 138 ∷ color 178 118 36 ∷ color 252 187 197 ∷ color 254 55 15 ∷ color 240 240 240
    ∷ color 106 28 138 ∷ color 168 221 196 ∷ color 37 132 187 ∷ color 254 179 67 ∷ color 255 243 107
    ∷ color 208 166 96 ∷ color 209 84 0 ∷ color 102 186 73 ∷ color 19 74 70 ∷ color 135 135 135
    ∷ color 216 204 198 ∷ color 67 86 7 ∷ color 253 217 222 ∷ color 249 147 188 ∷ color 0 56 34
    ∷ color 178 175 212 ∷ color 104 106 176 ∷ color 239 227 185 ∷ color 247 56 102 ∷ color 181 75 100
    ∷ color 19 43 26 ∷ color 199 1 86 ∷ color 254 158 50 ∷ color 168 222 235 ∷ color 0 103 62
    ∷ color 78 41 144 ∷ color 47 126 32 ∷ color 255 204 204 ∷ color 255 217 17 ∷ color 9 91 166
    ∷ color 240 249 112 ∷ color 227 243 91 ∷ color 255 153 0 ∷ color 255 240 141 ∷ color 255 200 200
    ∷ []

-- JEF's chart of 79 threads. Entry 0 is never chosen.
unfoldable pub jef_chart : List Color
jef_chart =
    color 0 0 0 ∷ color 0 0 0 ∷ color 255 255 255 ∷ color 255 255 23 ∷ color 255 102 0
    ∷ color 47 89 51 ∷ color 35 115 54 ∷ color 101 194 200 ∷ color 171 90 150 ∷ color 246 105 160
    ∷ color 255 0 0 ∷ color 177 112 78 ∷ color 11 47 132 ∷ color 228 195 93 ∷ color 72 26 5
    ∷ color 172 156 199 ∷ color 252 242 148 ∷ color 249 153 183 ∷ color 250 179 129 ∷ color 201 164 128
    ∷ color 151 5 51 ∷ color 160 184 204 ∷ color 127 194 28 ∷ color 229 229 229 ∷ color 136 155 155
    ∷ color 152 214 189 ∷ color 178 225 227 ∷ color 54 139 160 ∷ color 79 131 171 ∷ color 56 106 145
    ∷ color 7 22 80 ∷ color 249 153 162 ∷ color 249 103 107 ∷ color 227 49 31 ∷ color 226 161 136
    ∷ color 181 148 116 ∷ color 228 207 153 ∷ color 255 203 0 ∷ color 225 173 212 ∷ color 195 0 126
    ∷ color 128 0 75 ∷ color 84 5 113 ∷ color 177 5 37 ∷ color 202 224 192 ∷ color 137 152 86
    ∷ color 92 148 26 ∷ color 0 49 20 ∷ color 93 174 148 ∷ color 76 191 143 ∷ color 0 119 114
    ∷ color 89 91 97 ∷ color 255 255 242 ∷ color 177 88 24 ∷ color 203 138 7 ∷ color 152 108 128
    ∷ color 152 105 45 ∷ color 77 52 25 ∷ color 76 51 11 ∷ color 51 32 10 ∷ color 82 58 151
    ∷ color 13 33 126 ∷ color 30 119 172 ∷ color 178 221 83 ∷ color 243 54 137 ∷ color 222 100 158
    ∷ color 152 65 97 ∷ color 76 86 18 ∷ color 76 136 31 ∷ color 228 222 121 ∷ color 203 138 26
    ∷ color 203 162 28 ∷ color 255 152 5 ∷ color 252 178 87 ∷ color 255 229 5 ∷ color 240 51 31
    ∷ color 26 132 45 ∷ color 56 108 174 ∷ color 227 196 180 ∷ color 227 172 129
    ∷ []

-- The blank thumbnail: 38 rows of 6 bytes, lowest bit leftmost; a rounded border one row from the top and the bottom.
unfoldable pub blank_icon : List ℕ
blank_icon = joined
    ((0x00 ∷ 0x00 ∷ 0x00 ∷ 0x00 ∷ 0x00 ∷ 0x00 ∷ [])
    ∷ (0xF0 ∷ 0xFF ∷ 0xFF ∷ 0xFF ∷ 0xFF ∷ 0x0F ∷ [])
    ∷ (0x08 ∷ 0x00 ∷ 0x00 ∷ 0x00 ∷ 0x00 ∷ 0x10 ∷ [])
    ∷ (0x04 ∷ 0x00 ∷ 0x00 ∷ 0x00 ∷ 0x00 ∷ 0x20 ∷ [])
    ∷ joined (replicate 30 (0x02 ∷ 0x00 ∷ 0x00 ∷ 0x00 ∷ 0x00 ∷ 0x40 ∷ []))
    ∷ (0x04 ∷ 0x00 ∷ 0x00 ∷ 0x00 ∷ 0x00 ∷ 0x20 ∷ [])
    ∷ (0x08 ∷ 0x00 ∷ 0x00 ∷ 0x00 ∷ 0x00 ∷ 0x10 ∷ [])
    ∷ (0xF0 ∷ 0xFF ∷ 0xFF ∷ 0xFF ∷ 0xFF ∷ 0x0F ∷ [])
    ∷ (0x00 ∷ 0x00 ∷ 0x00 ∷ 0x00 ∷ 0x00 ∷ 0x00 ∷ [])
    ∷ [])
