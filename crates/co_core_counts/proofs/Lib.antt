mod Left
